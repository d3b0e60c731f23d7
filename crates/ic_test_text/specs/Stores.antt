-- Two stores side by side.
use Rattle.std.specs.Prelude.{List}
use Rattle.ic_path.specs.Orders.{Alike, IsIn}
use Rattle.ic_name.specs.declared.ids.Link.{Link}
use Rattle.ic_name.specs.declared.ids.LinkId.{LinkId}

-- Both stores have the same links, whose ids are known.
pub record AreSame (table rows : List Link) (ids : List LinkId) : Type 0 where
  pub links : Alike table rows
  pub known : (l : Link) → IsIn l table → IsIn l.id ids
