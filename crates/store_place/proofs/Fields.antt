-- Parts of a list of which only some elements change. Assumes nothing.
use mathlib.Core.Path.{◌≡◌, refl, sym, ap, ◌∙◌}
use mathlib.Core.Logic.{◌⊎◌, inl, inr}
use mathlib.Core.List.{List, ◌++◌, append_assoc}
use Prim.Native.Nat.{ℕ, ◌+◌, ◌-◌, ◌≤◌, min}
use native.Mathlib.Omega.{arith}
use lib.ListN.{length, take, drop, set, length-set}
use lib.Seq.{paste, length-paste, drop-paste, length-take-le, take-take, drop-drop, take-set-le, drop-set-lt, take_at, drop_at, take-length}
use borrow.Rule.Slice.PartMut.{mid_of, put_mid, same_len_mid, mid_len, take_put, drop_put}
use Rattle.store_log.proofs.Spans.{within}
use Rattle.store_place.specs.Only.{Only}
use Rattle.store_place.specs.Place.{field, PutText}

-- ---- what is left alone

pub only_none : (a e : ℕ) (l : List ℕ) → Only a e l l
only_none a e l = record { same_length = refl; front = refl; back = refl }

-- a part before, and what lies after
pub only_before : (a e at n : ℕ) (l l' : List ℕ) → Only a e l l' → at + n ≤ a → take n (drop at l') ≡ take n (drop at l)
only_before a e at n l l' o h = sym (within n at a l' h) ∙ ap (λ (t : List ℕ). take n (drop at t)) o.front ∙ within n at a l h

pub only_after : (a e at : ℕ) (l l' : List ℕ) → Only a e l l' → e ≤ at → drop at l' ≡ drop at l
only_after a e at l l' o h =
    let z : e + (at - e) ≡ at = omega arith in
    ap (λ (k : ℕ). drop k l') (sym z) ∙ sym (drop-drop (at - e) e l') ∙ ap (drop (at - e)) o.back ∙ drop-drop (at - e) e l ∙ ap (λ (k : ℕ). drop k l) z

pub only_then : (a e : ℕ) (l l' l'' : List ℕ) → Only a e l l' → Only a e l' l'' → Only a e l l''
only_then a e l l' l'' o p = record { same_length = p.same_length ∙ o.same_length; front = p.front ∙ o.front; back = p.back ∙ o.back }

-- in a wider part
pub only_wider : (a e a' e' : ℕ) (l l' : List ℕ) → Only a e l l' → a' ≤ a → e ≤ e' → Only a' e' l l'
only_wider a e a' e' l l' o h k = record {
  same_length = o.same_length;
  front = sym (take-take a' a l' h) ∙ ap (take a') o.front ∙ take-take a' a l h;
  back = only_after a e e' l l' o k;
}

pub only_put : (a e : ℕ) (l ys : List ℕ) → a ≤ e → e ≤ length l → length ys ≡ length (mid_of a (e - a) l) → Only a e l (put_mid a (e - a) l ys)
only_put a e l ys h k same = record {
  same_length = same_len_mid a (e - a) l ys same;
  front = take_put a (e - a) l ys (omega arith);
  back = drop_put a e l ys h k (same ∙ mid_len a e l k);
}

pub only_set : (i x : ℕ) (l : List ℕ) → Only i (i + 1) l (set l i x)
only_set i x l = record { same_length = length-set l i x; front = take-set-le i l i x (omega arith); back = drop-set-lt (i + 1) l i x (omega arith) }

-- ---- texts in fields

module _ (at : ℕ) (b s : List ℕ) (h : at + length s ≤ length b) where
  split : paste b at s (length s) ≡ take at b ++ (s ++ drop (at + length s) b)
  split = append_assoc (take at b) (take (length s) s) (drop (at + length s) b) ∙ ap (λ (t : List ℕ). take at b ++ (t ++ drop (at + length s) b)) (take-length s)

  long : length (take at b) ≡ at
  long = length-take-le at b (omega arith)

  only_paste : Only at (at + length s) b (paste b at s (length s))
  only_paste = record {
    same_length = length-paste b at s (length s) h (omega arith);
    front = ap (take at) split ∙ take_at (take at b) (s ++ drop (at + length s) b) at long;
    back = drop-paste b at s (length s) (omega arith) (omega arith);
  }

  pasted : take (length s) (drop at (paste b at s (length s))) ≡ s
  pasted = ap (λ (t : List ℕ). take (length s) (drop at t)) split ∙ ap (take (length s)) (drop_at (take at b) (s ++ drop (at + length s) b) at long) ∙ take_at s (drop (at + length s) b) (length s) refl

pub put_text : (at size : ℕ) (b b' s : List ℕ) → at + size ≤ length b → length s ≤ size → b' ≡ paste b at s (length s) → PutText at size s b b'
unfolding field
put_text at size b b' s h k e =
    let fit : at + length s ≤ length b = omega arith in
    let m : min (length s) size ≡ length s = omega arith in
    rw e (record {
      only = only_wider at (at + length s) at (at + size) b (paste b at s (length s)) (only_paste at b s fit) (omega arith) (omega arith);
      holds = ap (λ (n : ℕ). take n (drop at (paste b at s (length s)))) m ∙ pasted at b s fit;
    })

-- a field elsewhere
pub field_kept : (a e at size n : ℕ) (b b' : List ℕ) → Only a e b b' → (at + size ≤ a) ⊎ (e ≤ at) → field b' at size n ≡ field b at size n
unfolding field
field_kept a e at size n b b' o (inl h) = only_before a e at (min n size) b b' o (omega arith)
field_kept a e at size n b b' o (inr h) = ap (take (min n size)) (only_after a e at b b' o h)
