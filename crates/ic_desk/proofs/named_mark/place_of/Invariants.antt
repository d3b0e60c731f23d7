use Rattle.std.proofs.Common.{◌≢◌, take}
use Rattle.ic_path.specs.Orders.{IsIn}
use Rattle.ic_desk.specs.Views.{NamedView}
use Rattle.ic_desk.proofs.named_mark.place_of.Given as goal

-- none of the marks so far has the name
abbrev pub invariant-loop-place : goal.invariant-loop-place
invariant-loop-place l = (x : NamedView) → IsIn x (take l.place l.marks) → x.name ≢ l.name
