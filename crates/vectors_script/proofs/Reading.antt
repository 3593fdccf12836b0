-- A word more is read, and what is handed back in the end. Assumes nothing.
use native.Mathlib.Nat.{sub-zero}
use Rattle.std.proofs.Common.{◌≡◌, sym, ap, subst, ◌∙◌, ℕ, zero, suc, ◌<◌, ◌≤◌, List, length, take, set, get_or, Option, Some, None, Result, Ok, Err, Bor, arith, get_or-set_same, get_or-set_other, get_or-take, length-take-le, unwrap_or}
use Rattle.std.proofs.lemmas.Bool.{false≢true}
use Rattle.std.specs.Prelude.{OkIff}
use Rattle.std.specs.Result.{result_unwrap_or}
use Rattle.std.specs.List.{PartBy}
use Rattle.std.specs.Str.{NoCharPasses}
use Rattle.std.specs.Char.{is_not_whitespace}
use Rattle.std.specs.Str.Iter.{split_whitespace_rest, split_whitespace_steps}
use Rattle.std.specs.Str.Parse.{digits_value, without_leading_plus}
use Rattle.std.specs.declared.str.SplitWhitespace.{SplitWhitespace}
use Rattle.vectors_script.specs.Words.{IsNumber, IsNumberOf, TakesNumbers, ReadsNumbers}

pub number_parsed : {E : Type 0} (word : List ℕ) (r : Result ℕ E) (n : ℕ) → OkIff r (IsNumber word) (digits_value 10 (without_leading_plus word)) → n ≡ result_unwrap_or r 0 → IsNumberOf word n
number_parsed word (Ok x) n h e = (Some x, h, e)
number_parsed word (Err _) n h e = (None, h, e)

-- what stands behind the first k doesn't count
takes_alike : (l l' : List ℕ) (k : ℕ) (s t : SplitWhitespace) → ((j : ℕ) → j < k → get_or l' j 0 ≡ get_or l j 0) → TakesNumbers l k s t → TakesNumbers l' k s t
takes_alike l l' zero s t same h = h
takes_alike l l' (suc k) s t same (m, word, h, step, is) = (m, word, takes_alike l l' k s m (λ j less. same j (omega arith)) h, step, subst (IsNumberOf word.now) (sym (same k (omega arith))) is)

pub takes_more : (l : List ℕ) (k v : ℕ) (s m t : SplitWhitespace) (word : Bor (List ℕ)) → k < length l → TakesNumbers l k s m → split_whitespace_steps m (Some word) t → IsNumberOf word.now v → TakesNumbers (set l k v) (suc k) s t
takes_more l k v s m t word less h step is =
    (m, word, takes_alike l (set l k v) k s m (λ j before. get_or-set_other l k j v 0 (omega arith)) h, step, subst (IsNumberOf word.now) (sym (get_or-set_same l k v 0 less)) is)

front : (l : List ℕ) (k : ℕ) (r : Option (Bor (List ℕ))) (empty : Bor (List ℕ)) → k ≤ length l → PartBy (λ (x : Bor (List ℕ)). x.now) l 0 k r → (unwrap_or r empty).now ≡ take k l
front l k None empty fits h = absurd (false≢true (h.1 (omega arith, fits)))
front l k (Some x) empty fits h = h.0.2 ∙ ap (λ (n : ℕ). take n l) (sub-zero k)

-- what is handed back is the front of the room
pub reads : (room l : List ℕ) (k : ℕ) (s t : SplitWhitespace) (r : Option (Bor (List ℕ))) (got empty : Bor (List ℕ)) → length l ≡ length room → k ≤ length l → PartBy (λ (x : Bor (List ℕ)). x.now) l 0 k r → got ≡ unwrap_or r empty → TakesNumbers l k s t → (k < length room → NoCharPasses is_not_whitespace (split_whitespace_rest t)) → ReadsNumbers room got.now s t
reads room l k s t r got empty size fits part is h last =
    let all : got.now ≡ take k l = ap (λ (x : Bor (List ℕ)). x.now) is ∙ front l k r empty fits part in
    let many : length got.now ≡ k = ap length all ∙ length-take-le k l fits in
    record {
      fit = omega (arith, many, size, fits);
      taken = subst (λ n. TakesNumbers got.now n s t) (sym many) (takes_alike l got.now k s t (λ j less. ap (λ x. get_or x j 0) all ∙ get_or-take k l j 0 less) h);
      last = λ less. last (omega (arith, many, less));
    }
