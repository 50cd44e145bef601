use Rattle.whole.proofs.Counts.{children_none, children_one, children_two}
use Rattle.whole.proofs.named_children.Goals as goal

pub returns-in-Zero : goal.returns-in-Zero
returns-in-Zero c = λ xs C. children_none xs c.in-Zero.is C

pub returns-in-One : goal.returns-in-One
returns-in-One c = λ xs C. children_one xs c.in-One.is (c.named.ensures xs C)

pub returns-in-Two : goal.returns-in-Two
returns-in-Two c = λ xs C. children_two xs c.in-Two.is (c.named-in-Two-2.ensures _ (c.named-in-Two.ensures xs C))
