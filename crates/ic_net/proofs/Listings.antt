-- Tables that grow at their end, and the lists that they show.
use Rattle.std.proofs.Common.{◌≡◌, ℕ, suc, zero, ◌+◌, ◌<◌, ◌≤◌, List, [], ◌∷◌, ◌++◌, length, map, take, refl, sym, ap, arith, ◌∙◌, get_or, add-zero}
use Rattle.std.proofs.lemmas.List.{take_more}
use Rattle.std.specs.declared.cmp.Ordering.TheVariants.{Greater}
use Rattle.std.specs.Ordering.{nat_cmp}
use Rattle.std.specs.Cmp.{nat_cmp_is}
use Rattle.std.specs.BTreeMap.{insert_entry}
use Rattle.ic_name.specs.Names.{Name, name_cmp, start_name}
use Rattle.ic_name.specs.declared.kinds.Kind.{Kind}
use Rattle.ic_name.specs.declared.ports.Port.{Port}
use Rattle.ic_net.specs.declared.agents.NetAgent.{NetAgent}
use Rattle.ic_net.specs.Sheets.{listed_agent}
use Rattle.ic_net.specs.Nets.{listed_from, at_ports}

pub nat_above : (m n : ℕ) → n < m → nat_cmp m n ≡ Greater
nat_above m n h = sym (nat_cmp_is m n Greater h)

-- a start agent's name is above those of lesser numbers
start_above : (m n : ℕ) → n < m → name_cmp (start_name m) (start_name n) ≡ Greater
start_above m n h = rw (nat_above m n h) refl

-- one agent more
pub listed_from-snoc : (f : ℕ → ℕ → Port) (k : ℕ) (xs : List Kind) (x : Kind)
    → listed_from f k (xs ++ x ∷ []) ≡ listed_from f k xs ++ record { name = start_name (k + length xs); kind = x; partners = at_ports x (f (k + length xs)) } ∷ []
listed_from-snoc f k [] x = rw (add-zero k) refl
listed_from-snoc f k (y ∷ ys) x =
    let e : k + 1 + length ys ≡ k + suc (length ys) = omega arith in
    ap (λ as'. record { name = start_name k; kind = y; partners = at_ports y (f k) } ∷ as') (listed_from-snoc f (k + 1) ys x ∙ rw e refl)

-- a start agent with a greater number than all is put at the end
pub insert_last : (es : List (Name × NetAgent)) (n : ℕ) (v : NetAgent) (f : ℕ → ℕ → Port) (k : ℕ) (xs : List Kind)
    → map listed_agent es ≡ listed_from f k xs → k + length xs ≤ n → insert_entry name_cmp es (start_name n) v ≡ es ++ (start_name n, v) ∷ []
insert_last [] n v f k xs h l = refl
insert_last (e ∷ es) n v f k [] h l = cc
insert_last (e ∷ es) n v f k (x ∷ xs) h l =
    let first : listed_agent e ≡ record { name = start_name k; kind = x; partners = at_ports x (f k) } = cc in
    let rest : map listed_agent es ≡ listed_from f (k + 1) xs = cc in
    let here : e.0 ≡ start_name k = ap (λ a. a.name) first in
    let above : name_cmp (start_name n) e.0 ≡ Greater = rw here (start_above n k (omega arith)) in
    let more : k + 1 + length xs ≤ n = omega arith in
    rw above (ap (λ r. e ∷ r) (insert_last es n v f (k + 1) xs rest more))

pub map-snoc : {X Y : Type 0} (g : X → Y) (xs : List X) (x : X) → map g (xs ++ x ∷ []) ≡ map g xs ++ g x ∷ []
map-snoc g [] x = refl
map-snoc g (y ∷ ys) x = ap (λ zs. g y ∷ zs) (map-snoc g ys x)

pub length-take : {X : Type 0} (xs : List X) (n : ℕ) → n ≤ length xs → length (take n xs) ≡ n
length-take xs zero h = refl
length-take [] (suc n) h = absurd (omega arith)
length-take (x ∷ xs) (suc n) h = ap suc (length-take xs n (omega arith))

-- the table of agents with one agent more
pub agents_more : (f : ℕ → ℕ → Port) (kinds : List Kind) (n : ℕ) (x d : Kind) (es new : List (Name × NetAgent)) (v : NetAgent)
    → n < length kinds → x ≡ get_or kinds n d → map listed_agent es ≡ listed_from f 0 (take n kinds)
    → v.kind ≡ x → (listed_agent (start_name n, v)).partners ≡ at_ports x (f n)
    → new ≡ insert_entry name_cmp es (start_name n) v → map listed_agent new ≡ listed_from f 0 (take (n + 1) kinds)
agents_more f kinds n x d es new v lt is h kind partners ins =
    let len : length (take n kinds) ≡ n = length-take kinds n (omega arith) in
    let at_end = insert_last es n v f 0 (take n kinds) h (omega arith) in
    let grown : map listed_agent new ≡ map listed_agent es ++ listed_agent (start_name n, v) ∷ [] = ap (map listed_agent) (ins ∙ at_end) ∙ map-snoc listed_agent es (start_name n, v) in
    let taken : take (n + 1) kinds ≡ take n kinds ++ x ∷ [] = take_more kinds n d lt ∙ ap (λ y. take n kinds ++ y ∷ []) (sym is) in
    let number : 0 + length (take n kinds) ≡ n = omega arith in
    let agent : listed_agent (start_name n, v) ≡ record { name = start_name n; kind = x; partners = at_ports x (f n) } = λ i. record { name = start_name n; kind = kind i; partners = partners i } in
    let list = listed_from-snoc f 0 (take n kinds) x in
    rw (grown, h, taken, list, number, agent) refl
