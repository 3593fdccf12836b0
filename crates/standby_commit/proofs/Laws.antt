-- From what the callees leave to what settling promises. Assumes nothing.
use mathlib.Core.Path.{◌≡◌, refl, sym, ap, subst, ◌∙◌}
use mathlib.Core.Bool.{Bool, true, false, cond}
use mathlib.Core.List.{List, [], ◌∷◌, ◌++◌}
use Prim.Native.Nat.{ℕ, ◌+◌, ◌*◌, ◌<◌, ◌≤◌}
use native.Mathlib.Omega.{arith}
use lib.ListN.{length, get_or, set, take, length-set}
use lib.Seq.{take-take, get_or-take, get_or-set_same}
use Rattle.model_frame.specs.Frame.{Change, Part, commit, whole, last_whole}
use Rattle.model_session.specs.Session.{fits}
use Rattle.model_standby.specs.Store.{changed}
use Rattle.store_place.specs.Only.{Only}
use Rattle.store_areas.specs.declared.Shape.{Shape}
use Rattle.store_areas.specs.Areas.{place_words, words_at, Rules, Changed, place_at, places_of}
use Rattle.store_areas.proofs.Lifting.{rules_kept}
use Rattle.standby_pending.specs.Pending.{count_of, pending_of}
use Rattle.standby_commit.specs.Settling.{StoreChange, stays, commits, batch_change, pended_words, StoreAfter, Settles}
use Rattle.standby_commit.proofs.Header.{only_both, count_kept, places_kept, pending_kept}

-- a Batch that isn't accepted leaves the store as it was
pub none_changed : (s : Shape) (h i : ℕ) (part : Part) (w b : List ℕ) {taken : Bool} → taken ≡ false → StoreAfter s (batch_change h i part taken) w w b b
none_changed s h i part w b {taken} off = subst (λ (x : StoreChange). StoreAfter s x w w b b) (sym (by part)) (refl, refl)
  where
    by : (p : Part) → batch_change h i p taken ≡ stays
    by commit = ap (λ (t : Bool). cond t (commits h i) stays) off
    by whole = refl
    by last_whole = ap (λ (t : Bool). cond t (commits h i) stays) off

module _ (s : Shape) (i h : ℕ) (cs : List Change) (w b : List ℕ) (r : Rules s w b) (n : ℕ) (is : n ≡ (place_at s w b i).stored.session.next_out) where
  module _ {w' b' : List ℕ} (c : Changed s i (changed s.bytes s.messages cs) w w' b b') where
    -- the first 66 words are as they were
    head_kept : take 66 w' ≡ take 66 w
    head_kept =
        let low : 66 ≤ words_at s i = omega arith in
        sym (take-take 66 (words_at s i) w' low) ∙ ap (take 66) c.words.front ∙ take-take 66 (words_at s i) w low

    long : 66 ≤ length w
    long = omega (arith, r.room.words_long)

    count_same : count_of w' ≡ count_of w
    count_same =
        let one : 1 < 66 = omega arith in
        sym (get_or-take 66 w' 1 0 one) ∙ ap (λ (l : List ℕ). get_or l 1 0) head_kept ∙ get_or-take 66 w 1 0 one

    pub settled : {yes : Bool} {w'' : List ℕ} → yes ≡ fits n cs → yes ≡ true → count_of w < 64 → pending_of w'' ≡ pending_of w' ++ ((h, i) ∷ [])
        → w'' ≡ pended_words h i w' → Settles s i h cs w w'' b b' true
    settled {yes} {w''} f y few pend e =
        let x : ℕ = i * 4294967296 + h in
        let v : List ℕ = set w' (2 + count_of w') x in
        let slot : 2 + count_of w' < 66 = omega (arith, count_same) in
        let one : 1 < 66 = omega arith in
        let r' : Rules s w' b' = rules_kept s i (changed s.bytes s.messages cs) w w' b b' c r in
        let same : places_of s w'' b' ≡ places_of s w' b' =
        ap (λ (l : List ℕ). places_of s l b') e ∙ places_kept s v b' 1 (count_of w' + 1) (omega arith) one ∙ places_kept s w' b' (2 + count_of w') x (omega arith) slot in
        let before : 2 + count_of w < words_at s i = omega arith in
        let words : Only (words_at s i) (words_at s i + place_words s) (pended_words h i w) (set (set w' (2 + count_of w) x) 1 (count_of w + 1)) =
        only_both (words_at s i) (place_words s) 1 (count_of w + 1) (set w (2 + count_of w) x) (set w' (2 + count_of w) x) (omega arith) (only_both (words_at s i) (place_words s) (2 + count_of w) x w w' before c.words) in
        let same-slot : w'' ≡ set (set w' (2 + count_of w) x) 1 (count_of w + 1) = e ∙ ap (λ (k : ℕ). set (set w' (2 + k) x) 1 (k + 1)) count_same in
        let first : get_or w'' 0 0 ≡ get_or w' 0 0 = ap (λ (l : List ℕ). get_or l 0 0) e ∙ count_kept s v b' 1 (count_of w' + 1) (omega arith) one ∙ count_kept s w' b' (2 + count_of w') x (omega arith) slot in
        let inside : 1 < length v = omega (arith, length-set w' (2 + count_of w') x, c.words.same_length, long) in
        let second : get_or w'' 1 0 ≡ count_of w' + 1 = ap (λ (l : List ℕ). get_or l 1 0) e ∙ get_or-set_same v 1 (count_of w' + 1) 0 inside in
        let size : length w'' ≡ length w' = ap length e ∙ length-set v 1 (count_of w' + 1) ∙ length-set w' (2 + count_of w') x in
        record {
          is = sym y ∙ f ∙ ap (λ (k : ℕ). fits k cs) is;
          places = same ∙ c.places;
          pending = pend ∙ ap (λ (l : List (ℕ × ℕ)). l ++ ((h, i) ∷ [])) (pending_kept w w' long r.pending head_kept);
          rules = record {
            room = record { bytes_limit = r'.room.bytes_limit; messages_limit = r'.room.messages_limit; words_long = omega (arith, r'.room.words_long, size); bytes_long = r'.room.bytes_long };
            used = subst (λ (k : ℕ). k ≤ s.places) (sym first) r'.used;
            pending = omega (arith, second, count_same);
          };
          store_after = record { words = subst (Only (words_at s i) (words_at s i + place_words s) (pended_words h i w)) (sym same-slot) words; bytes = c.bytes };
        }
