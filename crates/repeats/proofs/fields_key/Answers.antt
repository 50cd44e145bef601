use Prim.Native.Nat.{◌+◌, ◌*◌}
use mathlib.Core.Path.{◌≡◌}
use native.Mathlib.Omega.{arith}
use lib.ListN.{length, get_or}
use Rattle.std.proofs.Common.{rules}
use Rattle.repeats.proofs.Keys.{key_end, key_at}
use Rattle.repeats.proofs.fields_key.Goals as goal

pub returns-in-One-clause-key : goal.returns-in-One-clause-key
returns-in-One-clause-key c =
    let xs = c.in-One.field-0 in
    let h : length xs ≡ 1 = search rules in
    let e0 : c.key_step.result ≡ get_or xs 0 0 + 32 * 1 = search rules in
    rw c.in-One.is (key_at xs 0 (omega arith) e0 (key_end xs 1 h))

pub returns-in-Two-clause-key : goal.returns-in-Two-clause-key
returns-in-Two-clause-key c =
    let xs = c.in-Two.field-0 in
    let h : length xs ≡ 2 = search rules in
    let e1 : c.key_step-in-Two.result ≡ get_or xs 1 0 + 32 * 1 = search rules in
    let e0 : c.key_step-in-Two-2.result ≡ get_or xs 0 0 + 32 * c.key_step-in-Two.result = search rules in
    rw c.in-Two.is (key_at xs 0 (omega arith) e0 (key_at xs 1 (omega arith) e1 (key_end xs 2 h)))

pub returns-in-Three-clause-key : goal.returns-in-Three-clause-key
returns-in-Three-clause-key c =
    let xs = c.in-Three.field-0 in
    let h : length xs ≡ 3 = search rules in
    let e2 : c.key_step-in-Three.result ≡ get_or xs 2 0 + 32 * 1 = search rules in
    let e1 : c.key_step-in-Three-2.result ≡ get_or xs 1 0 + 32 * c.key_step-in-Three.result = search rules in
    let e0 : c.key_step-in-Three-3.result ≡ get_or xs 0 0 + 32 * c.key_step-in-Three-2.result = search rules in
    rw c.in-Three.is (key_at xs 0 (omega arith) e0 (key_at xs 1 (omega arith) e1 (key_at xs 2 (omega arith) e2 (key_end xs 3 h))))

pub returns-in-Four-clause-key : goal.returns-in-Four-clause-key
returns-in-Four-clause-key c =
    let xs = c.in-Four.field-0 in
    let h : length xs ≡ 4 = search rules in
    let e3 : c.key_step-in-Four.result ≡ get_or xs 3 0 + 32 * 1 = search rules in
    let e2 : c.key_step-in-Four-2.result ≡ get_or xs 2 0 + 32 * c.key_step-in-Four.result = search rules in
    let e1 : c.key_step-in-Four-3.result ≡ get_or xs 1 0 + 32 * c.key_step-in-Four-2.result = search rules in
    let e0 : c.key_step-in-Four-4.result ≡ get_or xs 0 0 + 32 * c.key_step-in-Four-3.result = search rules in
    rw c.in-Four.is (key_at xs 0 (omega arith) e0 (key_at xs 1 (omega arith) e1 (key_at xs 2 (omega arith) e2 (key_at xs 3 (omega arith) e3 (key_end xs 4 h)))))
