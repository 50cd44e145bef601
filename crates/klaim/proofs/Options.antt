-- Laws of what a field or a row gives, if anything.
-- Assumes nothing.
use mathlib.Core.Path.{◌≡◌, refl}
use mathlib.Core.Bool.{Bool, true, false}
use mathlib.Core.Option.{Option, none, some}
use Rattle.klaim.specs.Rows.{◌>>=◌, given}

pub given_none : {A : Type 0} (t : Bool) → none ≡ given {A = A} t none
unfolding given
given_none true = refl
given_none false = refl

pub bind_none : {A B : Type 0} (o : Option A) (g : A → Option B) → ((x : A) → g x ≡ none) → (o >>= g) ≡ none
unfolding ◌>>=◌
bind_none none g h = refl
bind_none (some x) g h = h x

pub none_bind : {A B : Type 0} (o : Option A) (g : A → Option B) → o ≡ none → (o >>= g) ≡ none
unfolding ◌>>=◌
none_bind o g e = rw e
