-- Texts of a session that tell of want of memory.
use Rattle.std.proofs.Common.{ℕ, List, [], ◌++◌, refl, sym, ap, ◌∙◌, append_assoc}
use Rattle.std.specs.Prelude.{codes}
use Rattle.std.specs.Fmt.{decimal}
use Rattle.ic_desk.specs.Replies.{wanting_text}
use Rattle.ic_session.specs.Wants.{Wants}

-- a bench that went a part of the way
pub part_way_wants : (undone fired : ℕ) → Wants (wanting_text undone fired)
part_way_wants undone fired =
    ([], codes " after " ++ decimal undone ++ codes " undone " ++ decimal fired ++ codes " fired\n", refl)

-- so does a text with such a text in it
pub front_wants : {text : List ℕ} (more : List ℕ) → Wants text → Wants (text ++ more)
front_wants more (front, behind, parts) =
    let moved = append_assoc (front ++ codes "refused 25 memory") behind more in
    (front, behind ++ more, ap (λ xs. xs ++ more) parts ∙ moved)

pub behind_wants : (more : List ℕ) {text : List ℕ} → Wants text → Wants (more ++ text)
behind_wants more (front, behind, parts) =
    let moved = sym (append_assoc more (front ++ codes "refused 25 memory") behind) in
    let joined = ap (λ xs. xs ++ behind) (sym (append_assoc more front (codes "refused 25 memory"))) in
    (more ++ front, behind, ap (λ xs. more ++ xs) parts ∙ moved ∙ joined)
