-- What is read of an entry.
use Rattle.std.proofs.Common.{◌≡◌, ℕ, ◌<◌, List, length, get_or, Option, None, ◌∙◌, ap, arith}
use Rattle.std.proofs.lemmas.List.{get_or_default}
use Rattle.ic_name.specs.Names.{Name}
use Rattle.ic_names.specs.declared.entry.Entry.{Entry}
use Rattle.ic_names.specs.Rows.{AreRows, entry_at, child_at}

-- the place of a child, as it is read
pub child_read : {ns : List Name} (es : List Entry) {ss : List (Option ℕ)} (k d : ℕ) (e : Entry) (i : ℕ) (got x : Option ℕ) → AreRows ns es ss → k < length es → e ≡ entry_at es k → d < 4 → i ≡ d → got ≡ get_or e.children i x → got ≡ child_at es k d
child_read es k d e i got x rows within read small same is =
    let four : length e.children ≡ 4 = ap (λ f. length f.children) read ∙ rows.four k within in
    is ∙ get_or_default e.children i x None (omega arith) ∙ ap (λ j. get_or e.children j None) same ∙ ap (λ f. get_or f.children d None) read
