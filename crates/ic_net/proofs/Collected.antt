-- A table that is collected of entries in order has just these.
use Rattle.std.proofs.Common.{◌≡◌, ℕ, List, map, refl, sym, ap, subst, ◌∙◌}
use Rattle.std.proofs.lemmas.Cmp.{ranked, nat_cmp_total}
use Rattle.std.proofs.lemmas.Map.Keys.{IsDistinct-from_sorted}
use Rattle.std.proofs.lemmas.Map.Made.{update_all_none}
use Rattle.std.specs.BTreeMap.{BTreeMap, IsFromIterResult}
use Rattle.std.specs.Cmp.{IsTotalOrder, eq_by_cmp_equiv}
use Rattle.std.specs.List.Sorted.{IsStrictlySortedBy}
use Rattle.std.specs.Map.{keys_of}
use Rattle.std.specs.Ordering.{eq_by_cmp, nat_cmp}
use Rattle.std.specs.declared.cmp.Ordering.{Ordering}
use Rattle.std.specs.declared.cmp.Ordering.TheVariants.{Equal}
use Rattle.ic_name.specs.Names.{Name, name_cmp}
use Rattle.ic_name.proofs.NameOrder.{name_cmp_total, name_tied}
use Rattle.ic_name.specs.declared.ports.Port.{Port}
use Rattle.ic_theory.specs.Listed.{NetAgent as Listed, ListedNet, IsListing}
use Rattle.ic_net.specs.Sheets.{listed_agent}
use Rattle.ic_net.specs.declared.agents.NetAgent.{NetAgent}
use Rattle.ic_net.proofs.InOrder.{keys_listed}
use Rattle.ic_net.proofs.SortedTables.{same_tables}

pub collected : {K X : Type 0} {R : K → K → Ordering} (total : IsTotalOrder R) → ((x y : K) → R x y ≡ Equal → x ≡ y) → (es : List (K × X)) (m : BTreeMap K X)
    → IsStrictlySortedBy R (keys_of es) → IsFromIterResult R es m → m.entries ≡ es
collected {K} {X} {R} total tied es m sorted made =
    same_tables total tied m.entries es made.1 sorted (λ q. made.0 q ∙ update_all_none (eq_by_cmp_equiv total) (eq_by_cmp R) (λ x y. refl) es q (IsDistinct-from_sorted R (keys_of es) sorted))

-- the agents of a listing, collected in a table, are listed as they were
pub collected_agents : (l : ListedNet) (es : List (Name × NetAgent)) (m : BTreeMap Name NetAgent) → IsListing l → map listed_agent es ≡ l.agents → IsFromIterResult name_cmp es m → map listed_agent m.entries ≡ l.agents
collected_agents l es m listing same made =
    let sorted = subst (IsStrictlySortedBy name_cmp) (ap (map (λ (a : Listed). a.name)) (sym same) ∙ keys_listed es) listing.in_order in
    ap (map listed_agent) (collected name_cmp_total name_tied es m sorted made) ∙ same

-- and so are its free names
pub collected_frees : (l : ListedNet) (es : List (ℕ × Port)) (m : BTreeMap ℕ Port) → IsListing l → es ≡ l.frees → IsFromIterResult nat_cmp es m → m.entries ≡ l.frees
collected_frees l es m listing same made =
    let sorted = subst (λ fs. IsStrictlySortedBy nat_cmp (keys_of fs)) (sym same) listing.numbered in
    collected nat_cmp_total (λ i j e. ranked i j Equal (sym e)) es m sorted made ∙ same
