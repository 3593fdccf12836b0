-- What a store does to what the words stand for. Assumes nothing.
use mathlib.Core.Path.{◌≡◌, refl, sym, ap, ◌∙◌}
use mathlib.Core.Bool.{Bool, true, false, cond}
use mathlib.Core.List.{List, [], ◌∷◌}
use mathlib.Core.Option.{Option, none, some}
use Prim.Native.Nat.{ℕ, ◌+◌, ◌%◌, ◌<◌, ◌≤◌}
use native.Mathlib.Omega.{arith}
use native.Mathlib.Numerals.{add-one}
use lib.ListN.{length, get_or, set, drop, length-set}
use lib.Seq.{sets, length-sets, get_or-set_same, get_or-set_other, drop-set-lt}
use lib.Dec.{eqb, leb, ltb}
use borrow.Author.Tests.{eqb-true, eqb-false, eq-eqb, ne_eqb, leb-true, leb-false, ltb-true, lt-ltb}
use Rattle.model_quorum.specs.Counts as m
use Rattle.model_quorum.specs.Counts.{put, no_acks}
use Rattle.active_quorum.specs.Area.{start, handle_word, before_at, newest_of, walk_chain, count_place, count_at, count_in, PutsCount, AddsHandle}
use Rattle.active_quorum.proofs.Words.{sets_before, sets_after, sets_in, sets_drop, five_so}
use Rattle.active_quorum.proofs.Chains.{walk_out, look, Found, found, walk_same}

-- nine words from the place on are the count's
same_count : (v w : List ℕ) (j : ℕ) → ((k : ℕ) → start j ≤ k → k < start j + 9 → get_or v k 0 ≡ get_or w k 0) → count_at v j ≡ count_at w j
same_count v w j f = λ t. record {
  last = f (start j + 2) (omega arith) (omega arith) t;
  figure = f (start j + 3) (omega arith) (omega arith) t;
  acks = f (start j + 4) (omega arith) (omega arith) t ∷ f (start j + 5) (omega arith) (omega arith) t ∷ f (start j + 6) (omega arith) (omega arith) t ∷ f (start j + 7) (omega arith) (omega arith) t ∷ f (start j + 8) (omega arith) (omega arith) t ∷ [];
}

-- what is kept, by the place
abbrev kept_at : List ℕ → ℕ → Option m.Count
kept_at w i = cond (ltb i 256) (some (count_at w i)) none

pub place_found : (w : List ℕ) (h : ℕ) → count_place w h < 256 → Found w h (get_or w 3 0) (count_place w h)
unfolding count_place
place_found w h less = found w h (get_or w 3 0) (newest_of w h) less

-- ---- a count is stored at its handle's place

module _ (w : List ℕ) (h i : ℕ) (d : m.Count) (v : List ℕ) (at : i ≡ count_place w h) (less : i < 256) (long : 2564 ≤ length w) (p : PutsCount w i d.last d.figure d.acks v) where
  abbrev vs : List ℕ
  vs = d.last ∷ d.figure ∷ d.acks

  seven : length vs ≡ 7
  seven = omega (arith, p.five)

  pub kept_before : (k : ℕ) → k < start i + 2 → get_or v k 0 ≡ get_or w k 0
  kept_before k low = ap (λ (l : List ℕ). get_or l k 0) p.words ∙ sets_before vs w (start i + 2) k low

  kept_after : (k : ℕ) → start i + 9 ≤ k → get_or v k 0 ≡ get_or w k 0
  kept_after k high = ap (λ (l : List ℕ). get_or l k 0) p.words ∙ sets_after vs w (start i + 2) k (omega (arith, seven))

  pub kept_size : length v ≡ length w
  kept_size = ap length p.words ∙ length-sets w (start i + 2) vs

  pub kept_past : drop 2564 v ≡ drop 2564 w
  kept_past = ap (drop 2564) p.words ∙ sets_drop vs w (start i + 2) 2564 (omega (arith, seven))

  links : (j : ℕ) → (handle_word v j ≡ handle_word w j) × (before_at v j ≡ before_at w j)
  links j = go (leb j i) refl
    where
      go : (b : Bool) → leb j i ≡ b → (handle_word v j ≡ handle_word w j) × (before_at v j ≡ before_at w j)
      go true e =
          let low : j ≤ i = leb-true j i e in
          (kept_before (start j) (omega arith), kept_before (start j + 1) (omega arith))
      go false e =
          let high : i < j = leb-false j i e in
          (kept_after (start j) (omega arith), kept_after (start j + 1) (omega arith))

  same_place : (g : ℕ) → count_place v g ≡ count_place w g
  unfolding count_place
  same_place g =
      walk_same v w g (get_or v 3 0) (newest_of v g) (λ j _. links j)
      ∙ ap (λ (b : ℕ). walk_chain w g b (newest_of v g)) (kept_before 3 (omega arith))
      ∙ ap (walk_chain w g (get_or w 3 0)) (kept_before (4 + g % 256) (omega arith))

  others_count : (j : ℕ) → (j ≡ i → ⊥) → count_at v j ≡ count_at w j
  others_count j other = go (leb j i) refl
    where
      go : (b : Bool) → leb j i ≡ b → count_at v j ≡ count_at w j
      go true e =
          let low : j ≤ i = leb-true j i e in
          same_count v w j (λ k _ high. kept_before k (omega arith))
      go false e =
          let high : i < j = leb-false j i e in
          same_count v w j (λ k low _. kept_after k (omega arith))

  own_count : count_at v i ≡ d
  own_count = read d.acks (five_so d.acks p.five) d.last d.figure p.words refl
    where
      read : (l : List ℕ) → l ≡ get_or l 0 0 ∷ get_or l 1 0 ∷ get_or l 2 0 ∷ get_or l 3 0 ∷ get_or l 4 0 ∷ [] → (a f : ℕ) → v ≡ sets w (start i + 2) (a ∷ f ∷ l) → length (a ∷ f ∷ l) ≡ length vs
          → count_at v i ≡ record { last = a; figure = f; acks = l }
      read l five a f e size =
          let q : (k : ℕ) → k < 7 → get_or v (start i + 2 + k) 0 ≡ get_or (a ∷ f ∷ l) k 0 = λ k low. ap (λ (x : List ℕ). get_or x (start i + 2 + k) 0) e ∙ sets_in (a ∷ f ∷ l) w (start i + 2) k (omega (arith, size, seven)) (omega (arith, size, seven)) in
          let s : (k j : ℕ) → start i + 2 + k ≡ j → k < 7 → get_or v j 0 ≡ get_or (a ∷ f ∷ l) k 0 = λ k j r low. ap (λ (x : ℕ). get_or v x 0) (sym r) ∙ q k low in
          (λ t. record {
            last = s 0 (start i + 2) (omega arith) (omega arith) t;
            figure = s 1 (start i + 3) (omega arith) (omega arith) t;
            acks = s 2 (start i + 4) (omega arith) (omega arith) t ∷ s 3 (start i + 5) (omega arith) (omega arith) t ∷ s 4 (start i + 6) (omega arith) (omega arith) t ∷ s 5 (start i + 7) (omega arith) (omega arith) t ∷ s 6 (start i + 8) (omega arith) (omega arith) t ∷ [];
          }) ∙ ap (λ (x : List ℕ). record { last = a; figure = f; acks = x }) (sym five)

  pub stored : (g : ℕ) → count_in v g ≡ put h d (count_in w) g
  stored g = go (eqb g h) refl
    where
      other : (b : Bool) → ltb (count_place w g) 256 ≡ b → eqb g h ≡ false → cond b (some (count_at v (count_place w g))) none ≡ cond b (some (count_at w (count_place w g))) none
      other true t e =
          let mine : handle_word w (count_place w g) ≡ g = (place_found w g (ltb-true (count_place w g) 256 t)).own in
          let its : handle_word w (count_place w h) ≡ h = (place_found w h (omega arith)).own in
          ap some (others_count (count_place w g) (λ same. eqb-false g h e (sym mine ∙ ap (handle_word w) (same ∙ at) ∙ its)))
      other false t e = refl

      go : (b : Bool) → eqb g h ≡ b → count_in v g ≡ cond b (some d) (count_in w g)
      go true e =
          let here : count_place v g ≡ i = same_place g ∙ ap (count_place w) (eqb-true g h e) ∙ sym at in
          let t : ltb i 256 ≡ true = lt-ltb i 256 less in
          ap (kept_at v) here ∙ ap (λ (b : Bool). cond b (some (count_at v i)) none) t ∙ ap some own_count
      go false e = ap (kept_at v) (same_place g) ∙ other (ltb (count_place w g) 256) refl e

-- ---- a new handle is added at place n

module _ (w : List ℕ) (h n : ℕ) (v : List ℕ) (end : n ≡ get_or w 3 0) (room : n < 256) (unbound : 256 ≤ count_place w h) (long : 2564 ≤ length w) (p : AddsHandle w n h v) where
  abbrev ns : List ℕ
  ns = h ∷ newest_of w h ∷ 0 ∷ 0 ∷ no_acks

  abbrev s1 : List ℕ
  s1 = sets w (start n) ns

  abbrev s2 : List ℕ
  s2 = set s1 (4 + h % 256) n

  size1 : length s1 ≡ length w
  size1 = length-sets w (start n) ns

  size2 : length s2 ≡ length w
  size2 = length-set s1 (4 + h % 256) n ∙ size1

  pub added_size : length v ≡ length w
  added_size = ap length p ∙ length-set s2 3 (n + 1) ∙ size2

  pub added_past : drop 2564 v ≡ drop 2564 w
  added_past = ap (drop 2564) p ∙ drop-set-lt 2564 s2 3 (n + 1) (omega arith) ∙ drop-set-lt 2564 s1 (4 + h % 256) n (omega arith) ∙ sets_drop ns w (start n) 2564 (omega arith)

  -- word by word
  pub added_head : (k : ℕ) → k < 3 → get_or v k 0 ≡ get_or w k 0
  added_head k low =
      ap (λ (l : List ℕ). get_or l k 0) p ∙ get_or-set_other s2 3 k (n + 1) 0 (λ e. omega arith) ∙ get_or-set_other s1 (4 + h % 256) k n 0 (λ e. omega arith) ∙ sets_before ns w (start n) k (omega arith)

  pub added_one : get_or v 3 0 ≡ n + 1
  added_one = ap (λ (l : List ℕ). get_or l 3 0) p ∙ get_or-set_same s2 3 (n + 1) 0 (omega (arith, size2))

  own_chain : newest_of v h ≡ n
  own_chain =
      ap (λ (l : List ℕ). get_or l (4 + h % 256) 0) p ∙ get_or-set_other s2 3 (4 + h % 256) (n + 1) 0 (λ e. omega arith) ∙ get_or-set_same s1 (4 + h % 256) n 0 (omega (arith, size1))

  other_chain : (g : ℕ) → (g % 256 ≡ h % 256 → ⊥) → newest_of v g ≡ newest_of w g
  other_chain g other =
      ap (λ (l : List ℕ). get_or l (4 + g % 256) 0) p ∙ get_or-set_other s2 3 (4 + g % 256) (n + 1) 0 (λ e. omega arith)
      ∙ get_or-set_other s1 (4 + h % 256) (4 + g % 256) n 0 (λ e. other (omega arith)) ∙ sets_before ns w (start n) (4 + g % 256) (omega arith)

  -- the places lie past the chains
  there : (k : ℕ) → 260 ≤ k → get_or v k 0 ≡ get_or s1 k 0
  there k high = ap (λ (l : List ℕ). get_or l k 0) p ∙ get_or-set_other s2 3 k (n + 1) 0 (λ e. omega arith) ∙ get_or-set_other s1 (4 + h % 256) k n 0 (λ e. omega arith)

  below_kept : (k : ℕ) → 260 ≤ k → k < start n → get_or v k 0 ≡ get_or w k 0
  below_kept k high low = there k high ∙ sets_before ns w (start n) k low

  own_words : (k j : ℕ) → start n + k ≡ j → k < 9 → get_or v j 0 ≡ get_or ns k 0
  own_words k j e low = there j (omega arith) ∙ ap (λ (x : ℕ). get_or s1 x 0) (sym e) ∙ sets_in ns w (start n) k low (omega arith)

  links_below : (j : ℕ) → j < n → (handle_word v j ≡ handle_word w j) × (before_at v j ≡ before_at w j)
  links_below j low = (below_kept (start j) (omega arith) (omega arith), below_kept (start j + 1) (omega arith) (omega arith))

  own_handle : handle_word v n ≡ h
  own_handle = own_words 0 (start n) (omega arith) (omega arith)

  own_before : before_at v n ≡ newest_of w h
  own_before = own_words 1 (start n + 1) (omega arith) (omega arith)

  new_count : count_at v n ≡ record { last = 0; figure = 0; acks = no_acks }
  new_count = λ t. record {
    last = own_words 2 (start n + 2) (omega arith) (omega arith) t;
    figure = own_words 3 (start n + 3) (omega arith) (omega arith) t;
    acks = own_words 4 (start n + 4) (omega arith) (omega arith) t ∷ own_words 5 (start n + 5) (omega arith) (omega arith) t ∷ own_words 6 (start n + 6) (omega arith) (omega arith) t ∷ own_words 7 (start n + 7) (omega arith) (omega arith) t ∷ own_words 8 (start n + 8) (omega arith) (omega arith) t ∷ [];
  }

  -- the walk of handle g from place q on, one place more
  longer : (g q : ℕ) → walk_chain v g (get_or v 3 0) q ≡ cond (eqb q n) (look v g n) (walk_chain w g n q)
  longer g q =
      ap (λ (b : ℕ). walk_chain v g b q) (added_one ∙ add-one n)
      ∙ ap (λ (x : ℕ). cond (eqb q n) (look v g n) x) (walk_same v w g n q links_below)

  found_new : count_place v h ≡ n
  unfolding count_place
  found_new =
      let a : eqb (newest_of v h) n ≡ true = eq-eqb (newest_of v h) n own_chain in
      let b : eqb (handle_word v n) h ≡ true = eq-eqb (handle_word v n) h own_handle in
      longer h (newest_of v h) ∙ rw (a, b) refl

  -- another handle is found where it was: of its own chain, or of another
  found_other : (g : ℕ) → (g ≡ h → ⊥) → count_place v g ≡ count_place w g
  unfolding count_place
  found_other g other = longer g (newest_of v g) ∙ go (eqb (g % 256) (h % 256)) refl ∙ ap (λ (b : ℕ). walk_chain w g b (newest_of w g)) end
    where
      miss : eqb (handle_word v n) g ≡ false
      miss = ap (λ (x : ℕ). eqb x g) own_handle ∙ ne_eqb h g (λ e. other (sym e))

      past : (b : Bool) → eqb (newest_of w g) n ≡ b → cond b (cond (eqb (handle_word v n % 256) (g % 256)) (walk_chain v g n (before_at v n)) 256) (walk_chain w g n (newest_of w g)) ≡ walk_chain w g n (newest_of w g) → cond b (look v g n) (walk_chain w g n (newest_of w g)) ≡ walk_chain w g n (newest_of w g)
      past true e f = rw miss f
      past false e f = refl

      go : (b : Bool) → eqb (g % 256) (h % 256) ≡ b → cond (eqb (newest_of v g) n) (look v g n) (walk_chain w g n (newest_of v g)) ≡ walk_chain w g n (newest_of w g)
      go true e =
          let same : g % 256 ≡ h % 256 = eqb-true (g % 256) (h % 256) e in
          let mine : newest_of v g ≡ n = ap (λ (x : ℕ). get_or v (4 + x) 0) same ∙ own_chain in
          let a : eqb (newest_of v g) n ≡ true = eq-eqb (newest_of v g) n mine in
          let c : eqb (handle_word v n % 256) (g % 256) ≡ true = eq-eqb (handle_word v n % 256) (g % 256) (ap (λ (x : ℕ). x % 256) own_handle ∙ sym same) in
          rw (a, miss, c) (walk_same v w g n (before_at v n) links_below ∙ ap (walk_chain w g n) (own_before ∙ ap (λ (x : ℕ). get_or w (4 + x) 0) (sym same)))
      go false e =
          let apart : g % 256 ≡ h % 256 → ⊥ = eqb-false (g % 256) (h % 256) e in
          let c : eqb (handle_word v n % 256) (g % 256) ≡ false = ne_eqb (handle_word v n % 256) (g % 256) (λ s. apart (sym s ∙ ap (λ (x : ℕ). x % 256) own_handle)) in
          ap (λ (q : ℕ). cond (eqb q n) (look v g n) (walk_chain w g n q)) (other_chain g apart) ∙ ends (eqb (newest_of w g) n) refl c
        where
          ends : (b : Bool) → eqb (newest_of w g) n ≡ b → eqb (handle_word v n % 256) (g % 256) ≡ false → cond b (look v g n) (walk_chain w g n (newest_of w g)) ≡ walk_chain w g n (newest_of w g)
          ends true s c = rw (miss, c) (sym (walk_out w g n (newest_of w g) (omega (arith, eqb-true (newest_of w g) n s))))
          ends false s c = refl

  pub added : (g : ℕ) → count_in v g ≡ put h (record { last = 0; figure = 0; acks = no_acks }) (count_in w) g
  added g = go (eqb g h) refl
    where
      other : (b : Bool) → ltb (count_place w g) 256 ≡ b → cond b (some (count_at v (count_place w g))) none ≡ cond b (some (count_at w (count_place w g))) none
      other true t =
          let low : count_place w g < get_or w 3 0 = (place_found w g (ltb-true (count_place w g) 256 t)).below in
          ap some (same_count v w (count_place w g) (λ k from upto. below_kept k (omega arith) (omega arith)))
      other false t = refl

      go : (b : Bool) → eqb g h ≡ b → count_in v g ≡ cond b (some (record { last = 0; figure = 0; acks = no_acks })) (count_in w g)
      go true e =
          let here : count_place v g ≡ n = ap (count_place v) (eqb-true g h e) ∙ found_new in
          let t : ltb n 256 ≡ true = lt-ltb n 256 room in
          ap (kept_at v) here ∙ ap (λ (b : Bool). cond b (some (count_at v n)) none) t ∙ ap some new_count
      go false e = ap (kept_at v) (found_other g (eqb-false g h e)) ∙ other (ltb (count_place w g) 256) refl
