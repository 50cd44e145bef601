-- What is written are the first bytes, and one write more puts the next ones behind them.
use Rattle.std.proofs.Common.{◌≡◌, ℕ, ◌-◌, List, ◌++◌, length, take, drop, refl, sym, ap, ◌∙◌, subst, append_assoc, take-append-drop}
use Rattle.std.specs.declared.option.Option.{Option}
use Rattle.std.specs.Io.KnownBytes.{Appends}
use Rattle.std.proofs.KnownBytes.{Appends-trans, Appends-kept}
use Rattle.std.proofs.lemmas.List.{take_at, take_rest}
use Rattle.streams.proofs.write.Goals as goal

first_bytes : (a b : Option (List ℕ)) (all done rest : List ℕ) → all ≡ done ++ rest → Appends a b done → (n : ℕ) × Appends a b (take n all)
first_bytes a b all done rest split put = (length done, subst (Appends a b) (sym (ap (take (length done)) split ∙ take_at done rest (length done) refl)) put)

moved_on : (all done rest : List ℕ) (n : ℕ) → all ≡ done ++ rest → all ≡ (done ++ take n rest) ++ take (length rest - n) (drop n rest)
moved_on all done rest n split =
    split ∙ ap (λ l. done ++ l) (sym (take-append-drop n rest)) ∙ sym (append_assoc done (take n rest) (drop n rest)) ∙ ap (λ l. (done ++ take n rest) ++ l) (sym (take_rest rest n))

pub returns-in_err-put-clause-first : goal.returns-in_err-put-clause-first
returns-in_err-put-clause-first g c =
    let (done, split, put) = c.loop-rest.invariant in
    first_bytes _ _ _ done _ split (Appends-kept _ _ _ _ put c.in_err-put.ensures.put)

pub returns-then-put-eq0-clause-first : goal.returns-then-put-eq0-clause-first
returns-then-put-eq0-clause-first g c =
    let (done, split, put) = c.loop-rest.invariant in
    let rest = c.loop-rest.rest.now in
    first_bytes _ _ _ (done ++ take c.in_ok-put.put rest) _ (moved_on _ done rest c.in_ok-put.put split) (Appends-trans _ _ _ _ _ put c.in_ok-put.ensures.put)

pub loop-rest-preserved : goal.loop-rest-preserved
loop-rest-preserved g c =
    let (done, split, put) = c.loop-rest.invariant in
    let rest = c.loop-rest.rest.now in
    (done ++ take c.in_ok-put.put rest, moved_on _ done rest c.in_ok-put.put split, Appends-trans _ _ _ _ _ put c.in_ok-put.ensures.put)

pub returns-clause-first : goal.returns-clause-first
returns-clause-first g c =
    let (done, split, put) = c.loop-rest.invariant in
    first_bytes _ _ _ done _ split put
