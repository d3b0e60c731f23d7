-- Lines of a history once more names are known.
use Rattle.std.proofs.Common.{◌≡◌, suc, List, [], ◌∷◌, ◌++◌, map, arith, refl, sym, ap, ◌∙◌, subst}
use Rattle.std.proofs.lemmas.List.{map-append}
use Rattle.std.proofs.lemmas.List.Elements.{All-nil, All-cons, All-append}
use Rattle.ic_name.specs.Names.{Name, name_cmp}
use Rattle.ic_name.specs.declared.lines.Call.TheVariants.{Fire}
use Rattle.ic_name.specs.declared.lines.Line.{Line}
use Rattle.ic_name.specs.declared.lines.Reply.TheVariants as reply
use Rattle.ic_roster.specs.declared.interaction.Interaction.{Interaction}
use Rattle.ic_roster.specs.Rosters.{IsNamed}
use Rattle.ic_set.proofs.GrownNames.{Keeps, kept_name, kept_event}
use Rattle.ic_history.specs.Noted.{NotedLine, Fired, Limited, NotActive, Undone, NotStanding, Held, line_in, IsLineNamed, AreLinesNamed}
use Rattle.ic_history.specs.Limits.{reply_of}

-- a firing still has its places among the names
pub still_named : (old new : List Name) → Keeps old new → (i : Interaction) → IsNamed old i → IsNamed new i
still_named old new keeps i named =
    let lead = kept_name old new keeps i.lead.place named.lead in
    let other = kept_name old new keeps i.other.place named.other in
    record { lead = lead.within; other = other.within; ordered = (λ u. name_cmp (lead.named u) (other.named u)) ∙ named.ordered }

-- a line is the one that it was
kept_line : (old new : List Name) → Keeps old new → (l : NotedLine) → IsLineNamed old l → (line_in new l ≡ line_in old l) × IsLineNamed new l
kept_line old new keeps (Fired i) named = (λ u. record { call = Fire (kept_event old new keeps i named u); reply = reply.Fired }, still_named old new keeps i named)
kept_line old new keeps (Limited limit i) named = (λ u. record { call = Fire (kept_event old new keeps i named u); reply = reply_of limit }, still_named old new keeps i named)
kept_line old new keeps (NotActive e) named = (refl, tt)
kept_line old new keeps (Undone line) named = (refl, tt)
kept_line old new keeps (NotStanding line) named = (refl, tt)
kept_line old new keeps (Held line by) named = (refl, tt)

-- and so are lines
pub kept_lines : (old new : List Name) → Keeps old new → (ls : List NotedLine) → AreLinesNamed old ls → (map (line_in new) ls ≡ map (line_in old) ls) × AreLinesNamed new ls
kept_lines old new keeps [] all = (refl, All-nil (IsLineNamed new))
kept_lines old new keeps (l ∷ ls) all =
    let first = kept_line old new keeps l (all 0 l (omega arith)) in
    let rest = kept_lines old new keeps ls (λ k d h. all (suc k) d (omega (arith, h))) in
    (λ u. first.0 u ∷ rest.0 u, All-cons (IsLineNamed new) l ls first.1 rest.1)

-- so with a line more the lines are those of before and that one
pub more_lines : (old new : List Name) → Keeps old new → (ls ls' : List NotedLine) (l : NotedLine) (line : Line) → AreLinesNamed old ls → ls' ≡ ls ++ l ∷ [] → line_in new l ≡ line → map (line_in new) ls' ≡ map (line_in old) ls ++ line ∷ []
more_lines old new keeps ls ls' l line all more is =
    ap (map (line_in new)) more ∙ map-append (line_in new) ls (l ∷ []) ∙ ap (λ xs. xs ++ line_in new l ∷ []) (kept_lines old new keeps ls all).0 ∙ ap (λ x. map (line_in old) ls ++ x ∷ []) is

-- all with their places among the names
pub more_named : (old new : List Name) → Keeps old new → (ls ls' : List NotedLine) (l : NotedLine) → AreLinesNamed old ls → ls' ≡ ls ++ l ∷ [] → IsLineNamed new l → AreLinesNamed new ls'
more_named old new keeps ls ls' l all more its =
    let one : AreLinesNamed new (l ∷ []) = All-cons (IsLineNamed new) l [] its (All-nil (IsLineNamed new)) in
    subst (AreLinesNamed new) (sym more) (All-append (IsLineNamed new) ls (l ∷ []) (kept_lines old new keeps ls all).1 one)
