use mathlib.Core.Path.{ap, ◌∙◌}
use Prim.Native.Nat.{ℕ}
use lib.ListN.{set}
use lib.Seq.{map-set}
use Rattle.std.specs.Prelude.{Some}
use Rattle.sets.specs.Options.{option_of}
use Rattle.threads.specs.View.{bindings_view, rebound, thread_view}
use Rattle.threads.proofs.Thread.bind.Goals as goal

pub returns-then-place-lt-VARIABLES : goal.returns-then-place-lt-VARIABLES
returns-then-place-lt-VARIABLES c =
    let bs = c.args.self.bindings in
    let site = Some (record { 0 = c.args.s }) in
    let here = ap (λ (i : ℕ). bindings_view (set bs i site)) c.from-place.ensures in
    ap (rebound (thread_view c.args.self)) (here ∙ map-set (option_of (λ s. s.0)) bs c.args.u.0 site)
