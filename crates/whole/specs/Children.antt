-- The lines that a line names, as the code has them.
-- Assumes nothing.
use Rattle.std.specs.Prelude.{List, [], ◌∷◌, ℕ}
use Rattle.whole.specs.declared.Children.{Children}
use Rattle.whole.specs.declared.Children.TheVariants.{Zero, One, Two}

unfoldable pub list_of : Children → List ℕ
list_of Zero = []
list_of (One a) = a ∷ []
list_of (Two a b) = a ∷ b ∷ []
