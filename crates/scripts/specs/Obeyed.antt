-- What a command of an engine script does to the state.
-- Assumes nothing.
use Rattle.std.specs.Prelude.{◌≡◌, true, false, List, ℕ}
use Rattle.commands.specs.declared.Command.{Command}
use Rattle.commands.specs.declared.Command.TheVariants.{Step, Guarded, Door, Ready, Bring, Withdraw, Overlong, Bad}
use Rattle.state.specs.declared.State.{State}
use Rattle.step.specs.Stepped.{Stepped}
use Rattle.brings.specs.Brought.{Brought}
use Rattle.withdraws.specs.Withdrawn.{Withdrawn}

-- `step,k,m,r` is a bare step of thread k with tuple m and root r, `guarded,k,m,r` a guarded one; `bring` brings the rows behind it, and
-- `withdraw` sends the newest arrival away. Behind each other command "the state is kept".
abbrev pub Obeyed : Command → List ℕ → State → State → Type 0
Obeyed (Step c) rows st new = Stepped false st c.thread c.tuple c.root new
Obeyed (Guarded c) rows st new = Stepped true st c.thread c.tuple c.root new
Obeyed (Door r l d) rows st new = new ≡ st
Obeyed Ready rows st new = new ≡ st
Obeyed Bring rows st new = Brought st rows new
Obeyed Withdraw rows st new = Withdrawn st new
Obeyed Overlong rows st new = new ≡ st
Obeyed Bad rows st new = new ≡ st
