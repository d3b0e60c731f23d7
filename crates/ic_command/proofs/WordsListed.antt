-- What words list, told by the first two of them and what stands behind these.
use Rattle.std.proofs.Common.{◌≡◌, ℕ, List, [], ◌∷◌, ◌++◌, ◌↔◌, refl, sym, ap, subst, ◌∙◌, inl, inr}
use Rattle.std.specs.Prelude.{codes, Option, Some, None, is_some, IsTrue}
use Rattle.ic_name.specs.Events.{Pair}
use Rattle.ic_name.specs.NameTexts.{name_text}
use Rattle.ic_command.specs.Commands.{AreAgents, AreNumberUpTo, IsEventIn}
use Rattle.ic_command.specs.Listed.{Lists, bare, ranked, IsRankPart, ListsIn}
use Rattle.ic_command.specs.declared.listed.TheConstants.{MAX_RANK}

-- two names, and what may stand behind them
record Parts (ws : List (List ℕ)) (e : Pair) : Type 0 where
  first : List ℕ
  second : List ℕ
  rest : List (List ℕ)
  whole : ws ≡ first ∷ second ∷ rest
  agents : AreAgents (first ∷ second ∷ []) e
  part : IsRankPart rest

parts_of : {ws : List (List ℕ)} {e : Pair} → Lists ws e → Parts ws e
parts_of (bare {e = e} a) = record {
  first = name_text a.first;
  second = name_text a.second;
  rest = [];
  whole = a.written;
  agents = subst (λ us. AreAgents us e) a.written a;
  part = inl refl;
}
parts_of (ranked {w = w} {e = e} a r) = record {
  first = name_text a.first;
  second = name_text a.second;
  rest = codes "rank" ∷ w ∷ [];
  whole = ap (λ us. us ++ codes "rank" ∷ w ∷ []) a.written;
  agents = subst (λ us. AreAgents us e) a.written a;
  part = inr (w, refl, r);
}

-- words with two in front
lists_event : (v w : List ℕ) (rest ws : List (List ℕ)) (e : Pair) → v ∷ w ∷ rest ≡ ws → AreAgents (v ∷ w ∷ []) e → IsRankPart rest → Lists ws e
lists_event v w rest ws e whole agents (inl none) =
    let all : v ∷ w ∷ [] ≡ ws = ap (λ us. v ∷ w ∷ us) (sym none) ∙ whole in
    subst (λ us. Lists us e) all (bare agents)
lists_event v w rest ws e whole agents (inr r) =
    let all : v ∷ w ∷ codes "rank" ∷ r.0 ∷ [] ≡ ws = ap (λ us. v ∷ w ∷ us) (sym r.1) ∙ whole in
    subst (λ us. Lists us e) all (ranked agents r.2)

pub lists_in : (v w : List ℕ) (rest ws : List (List ℕ)) → ws ≡ v ∷ w ∷ rest → IsRankPart rest → (o : Option Pair) → IsEventIn (v ∷ w ∷ []) o → ListsIn ws o
lists_in v w rest ws whole part (Some e) agents = lists_event v w rest ws e (sym whole) agents part
lists_in v w rest ws whole part None none =
    λ e l.
    let p = parts_of l in
    let same = p.whole in
    let first : p.first ≡ v = cc in
    let second : p.second ≡ w = cc in
    let names : p.first ∷ p.second ∷ [] ≡ v ∷ w ∷ [] = cc in
    none e (subst (λ us. AreAgents us e) names p.agents)

-- the word in front of a rank, and what stands behind it
pub is_rank_part : (w : List ℕ) (rest ws : List (List ℕ)) → ws ≡ w ∷ rest → w ≡ codes "rank" → (o : Option ℕ) → AreNumberUpTo MAX_RANK rest o
    → IsTrue (is_some o) ↔ IsRankPart ws
is_rank_part w rest ws whole is (Some n) number =
    let all : ws ≡ codes "rank" ∷ number.0 ∷ [] = cc in
    (λ _. inr (number.0, all, (_, number.2)), λ _. refl)
is_rank_part w rest ws whole is None none = (λ no. absurd cc, λ p. absurd (part p))
  where
    part : IsRankPart ws → ⊥
    part (inl empty) = absurd cc
    part (inr r) =
        let same = r.1 in
        let one : rest ≡ r.0 ∷ [] = cc in
        none r.0 r.2.0 one r.2.1
