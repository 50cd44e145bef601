-- A state that has gone on: other tuples and threads, or another answer.
-- Assumes nothing.
use Rattle.std.specs.Prelude as Prelude
use Rattle.klaim.specs.declared.Refusal.{Refusal}
use Rattle.klaim.specs.Invariant.{Invariant}
use Rattle.tables.specs.View.{Tuples}
use Rattle.threads.specs.View.{Threads}
use Rattle.state.specs.declared.Event.{Event}
use Rattle.state.specs.declared.State.{State}
use Rattle.state.specs.View.{state_view, gone_on}
use Rattle.state.specs.Fits.{sound_at, Fits, FitsNet}

-- it keeps what is its own of the invariant
pub fits_on : (st : State) (tuples : Tuples) (threads : Threads) (told : Prelude.Result Event Refusal) →
    Fits st → Invariant (state_view (gone_on st tuples threads told)) → Fits (gone_on st tuples threads told)
unfolding state_view sound_at
fits_on st tuples threads told f i = record {
  arrivals_few = f.arrivals_few;
  sound_is = f.sound_is;
  invariant = i;
}

-- and the net's lines stay the first
pub net_on : (st : State) (tuples : Tuples) (threads : Threads) (told : Prelude.Result Event Refusal) →
    FitsNet st → Invariant (state_view (gone_on st tuples threads told)) → FitsNet (gone_on st tuples threads told)
net_on st tuples threads told f i = record { own_first = f.own_first; fits = fits_on st tuples threads told f.fits i }

-- another answer alone
abbrev pub answering : State → Prelude.Result Event Refusal → State
answering st told = gone_on st st.tuples st.threads told

pub answering_fits : (st : State) → Fits st → (told : Prelude.Result Event Refusal) → Fits (answering st told)
unfolding state_view
answering_fits st f told = fits_on st st.tuples st.threads told f f.invariant
