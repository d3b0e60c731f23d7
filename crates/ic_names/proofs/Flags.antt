-- Flags that keep up with the leads.
use Rattle.std.proofs.Common.{◌≡◌, ◌≢◌, ℕ, zero, suc, ◌-◌, ◌<◌, ◌≤◌, List, [], ◌∷◌, ◌++◌, length, take, set, replicate, Bool, true, false, cond, IsTrue, ◌↔◌, ◌⊎◌, inl, inr, refl, sym, ap, subst, ◌∙◌, arith, length-append, length-set, get_or-set_other}
use Rattle.std.specs.Prelude.{slice_index_or}
use Rattle.std.proofs.lemmas.Bool.{cases_lt}
use Rattle.std.proofs.lemmas.Grind.{get_or-set_at}
use Rattle.std.proofs.lemmas.List.{get_or_append_left, take_all, get_or-append_right, get_or-replicate, get_or_past, length-replicate}
use Rattle.ic_path.specs.Orders.{here, Alike, IsIn, IsOnce}
use Rattle.ic_path.proofs.Alikes.{alike-in, alike_back}
use Rattle.ic_path.proofs.EachOnce.{once_rest, once_cons}
use Rattle.ic_path.proofs.Picks.{in_first, in_more, in-cons_cases}
use Rattle.ic_names.specs.declared.queue.Lead.{Lead}
use Rattle.ic_names.specs.Queues.{LeadsView, places, AreFlagged, GoTogether}
use Rattle.ic_names.proofs.UpTo.{same_or_not}
use Rattle.ic_names.proofs.QueuedPlaces.{once-places, once_leads, once_moved}

-- there is a flag for each place whose flag is true
true_inside : (queued : List Bool) (n : ℕ) → slice_index_or queued n false ≡ true → n < length queued
true_inside [] n e = cc
true_inside (b ∷ queued) zero e = omega arith
true_inside (b ∷ queued) (suc n) e = let h = true_inside queued n e in omega arith

-- the flags after a name has come in
added_flagged : (ls ms : List Lead) (n : ℕ) (queued : List Bool) → AreFlagged ls queued → (IsIn n (places ls) → ⊥) → n < length queued → Alike (places ms) (n ∷ places ls) → AreFlagged ms (set queued n true)
added_flagged ls ms n queued are fresh room added = record {
  once = once_leads ms (once_moved (alike_back added) (once_cons fresh (once-places ls are.once)));
  flags = λ m. flags m (same_or_not m n);
}
  where
    flags : (m : ℕ) → (m ≡ n) ⊎ (m ≢ n) → IsTrue (slice_index_or (set queued n true) m false) ↔ IsIn m (places ms)
    flags m (inl e) = ((λ t. alike-in (alike_back added) (subst (λ k. IsIn k (n ∷ places ls)) (sym e) (in_first n (places ls)))), (λ i. get_or-set_at queued n m true false e room))
    flags m (inr d) = ((λ t. alike-in (alike_back added) (in_more n ((are.flags m).0 (sym kept ∙ t)))), (λ i. told (in-cons_cases (alike-in added i))))
      where
        kept : slice_index_or (set queued n true) m false ≡ slice_index_or queued m false
        kept = get_or-set_other queued n m true false d

        told : (m ≡ n) ⊎ IsIn m (places ls) → slice_index_or (set queued n true) m false ≡ true
        told (inl e) = absurd (d e)
        told (inr i) = kept ∙ (are.flags m).1 i

-- the fields of a queue after a name has come in
pub added_together : (run run' : LeadsView) (heap heap' : List Lead) (room room' n : ℕ) (queued : List Bool) → GoTogether run heap room queued → (IsIn n (places (run.leads ++ heap)) → ⊥) → n < length queued
    → Alike (places (run'.leads ++ heap')) (n ∷ places (run.leads ++ heap)) → 0 < length run'.leads → run'.room ≡ run.room → room' ≡ room → GoTogether run' heap' room' (set queued n true)
added_together run run' heap heap' room room' n queued before fresh inside added some same_run same_heap =
    let long = length-set queued n true in
    record {
      flagged = added_flagged (run.leads ++ heap) (run'.leads ++ heap') n queued before.flagged fresh inside added;
      run_first = λ e. absurd (omega (arith, ap length e, some));
      heap_room = omega (arith, long, before.heap_room, same_heap);
      run_room = λ h. (let room = before.run_room (omega (arith, inside)) in omega (arith, room, same_run));
    }

-- a name of the queue has a flag
pub queued_flag : (ls ms : List Lead) (n : ℕ) (queued : List Bool) → AreFlagged ls queued → Alike (places ls) (n ∷ places ms) → n < length queued
queued_flag ls ms n queued are taken = true_inside queued n ((are.flags n).1 (alike-in (alike_back taken) (in_first n (places ms))))

-- the flags after a name has gone
pub taken_flagged : (ls ms : List Lead) (n : ℕ) (queued : List Bool) → AreFlagged ls queued → Alike (places ls) (n ∷ places ms) → AreFlagged ms (set queued n false)
taken_flagged ls ms n queued are taken = record { once = once_leads ms (once_rest once here); flags = λ m. flags m (same_or_not m n) }
  where
    once : IsOnce (n ∷ places ms)
    once = once_moved taken (once-places ls are.once)

    flags : (m : ℕ) → (m ≡ n) ⊎ (m ≢ n) → IsTrue (slice_index_or (set queued n false) m false) ↔ IsIn m (places ms)
    flags m (inl e) =
        let off = get_or-set_at queued n m false false e (queued_flag ls ms n queued are taken) in
        ((λ t. cc), (λ i. absurd (once n (places ms) here (subst (λ k. IsIn k (places ms)) e i))))
    flags m (inr d) = ((λ t. told (in-cons_cases (alike-in taken ((are.flags m).0 (sym kept ∙ t))))), (λ i. kept ∙ (are.flags m).1 (alike-in (alike_back taken) (in_more n i))))
      where
        kept : slice_index_or (set queued n false) m false ≡ slice_index_or queued m false
        kept = get_or-set_other queued n m false false d

        told : (m ≡ n) ⊎ IsIn m (places ms) → IsIn m (places ms)
        told (inl e) = absurd (d e)
        told (inr i) = i

-- flags for more places
more_flags : (queued : List Bool) (count n : ℕ) → length queued ≤ count → slice_index_or (take count queued ++ replicate (count - length queued) false) n false ≡ slice_index_or queued n false
more_flags queued count n h = rw (take_all count queued h) (by (cases_lt n (length queued)) (cases_lt n count))
  where
    by : (n < length queued) ⊎ (length queued ≤ n) → (n < count) ⊎ (count ≤ n) → slice_index_or (queued ++ replicate (count - length queued) false) n false ≡ slice_index_or queued n false
    by (inl low) c = get_or_append_left queued (replicate (count - length queued) false) false n low
    by (inr high) (inl low) = get_or-append_right queued (replicate (count - length queued) false) (length queued) n false refl high ∙ get_or-replicate (count - length queued) (n - length queued) false false (omega arith) ∙ sym (get_or_past queued n false high)
    by (inr high) (inr past) =
        let long = length-append queued (replicate (count - length queued) false) in
        let rest = length-replicate (count - length queued) false in
        get_or_past (queued ++ replicate (count - length queued) false) n false (omega (arith, long, rest)) ∙ sym (get_or_past queued n false high)

-- the flags with room for more
pub resized_flagged : (ok : Bool) (ls : List Lead) (x y : List Bool) (count len : ℕ) → AreFlagged ls x → y ≡ cond ok (take count x ++ replicate (count - len) false) x → len ≡ length x → len ≤ count → AreFlagged ls y
resized_flagged ok ls x y count len are is all more = record { once = are.once; flags = λ n. subst (λ b. IsTrue b ↔ IsIn n (places ls)) (sym (same ok is n)) (are.flags n) }
  where
    same : (ok : Bool) → y ≡ cond ok (take count x ++ replicate (count - len) false) x → (n : ℕ) → slice_index_or y n false ≡ slice_index_or x n false
    same true f n = ap (λ q. slice_index_or q n false) (f ∙ ap (λ l. take count x ++ replicate (count - l) false) all) ∙ more_flags x count n (omega arith)
    same false f n = ap (λ q. slice_index_or q n false) f
