-- How reading lessens what an input can still be read.
use Rattle.std.proofs.Common.{◌≡◌, ℕ, suc, Bool, true, false, [], ◌∷◌, eqb, ap, ◌+◌, ◌<◌, ◌≤◌, List, length, refl, arith, length-drop}
use Rattle.ic_command.specs.declared.lines.input.TheConstants.{CHUNK}
use Rattle.ic_command.specs.declared.lines.input.Input.{Input}
use Rattle.ic_command.specs.Lines.{has_feed, behind_line}
use Rattle.ic_command.specs.Left.{unread, work}

-- after one call of the reader there is less, whatever it gave
pub filled_less : (i j : Input) → j.reads + 1 ≡ i.reads → work j < work i
filled_less i j e =
    let few : length (unread j) ≤ length j.buffer.items = (let l = length-drop j.start j.buffer.items in omega arith) in
    let small = j.small in
    let size : CHUNK ≡ 8192 = refl in
    omega arith

-- a line with its feed is not empty
behind_shorter : (xs : List ℕ) → has_feed xs ≡ true → length (behind_line xs) < length xs
behind_shorter [] h = cc
behind_shorter (x ∷ xs) h = go (eqb x 10) refl (behind_shorter xs)
  where
    go : (b : Bool) → eqb x 10 ≡ b → (has_feed xs ≡ true → length (behind_line xs) < length xs) → length (behind_line (x ∷ xs)) < suc (length xs)
    go true e f = rw e (omega arith)
    go false e f =
        let k : has_feed xs ≡ true = rw e at h in
        let r = f k in
        rw e (omega arith)

-- once a whole line is taken there is less
pub whole_less : (i j : Input) → j.reads ≡ i.reads → has_feed (unread i) ≡ true → unread j ≡ behind_line (unread i) → work j < work i
whole_less i j e h r =
    let fewer : length (unread j) < length (unread i) = (let s = behind_shorter (unread i) h in let l : length (unread j) ≡ length (behind_line (unread i)) = ap length r in omega arith) in
    rw e (omega arith)

-- and no more once a part of one is, or nothing
pub part_less : (i j : Input) → j.reads ≡ i.reads → unread j ≡ [] → work j ≤ work i
part_less i j e r =
    let none : length (unread j) ≡ 0 = ap length r in
    rw e (omega arith)

pub same_work : (i j : Input) → j.reads ≡ i.reads → unread j ≡ unread i → work j ≤ work i
same_work i j e r =
    let same : length (unread j) ≡ length (unread i) = ap length r in
    rw e (omega arith)
