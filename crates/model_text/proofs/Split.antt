-- Pieces that are read one after the other give the lines of the whole text. Assumes nothing.
use mathlib.Core.Path.{◌≡◌, refl, sym, ap, ◌∙◌}
use mathlib.Core.Bool.{Bool, true, false, cond, or-true}
use mathlib.Core.List.{List, [], ◌∷◌, ◌++◌, append-nil, append_assoc, nil≢cons, map}
use Prim.Native.Nat.{ℕ, zero, suc, ◌+◌, ◌<◌, ◌≤◌}
use native.Mathlib.Omega.{arith}
use native.Mathlib.Numerals.{add-one}
use borrow.Author.Tests.{eqb-true, ltb-true, ltb-false, lt-ltb}
use lib.Dec.{eqb, ltb}
use lib.ListN.{length, take, drop}
use lib.Seq.{take_all, take-nil, length-take-le}
use Rattle.model_text.specs.Hex.{longest_line, line_bytes}
use Rattle.model_text.specs.Lines.{feed, lines_of, first_feed, whole_line, part_line, cut_at, Handed, joined}
use Rattle.model_text.specs.Lines.Handed.{ended, last_line, line, no_feed}

-- ---- texts without a line feed

abbrev pub NoFeed : List ℕ → Type 0
NoFeed [] = Unit {0}
NoFeed (b ∷ s) = (eqb b feed ≡ false) × NoFeed s

both : (s t : List ℕ) → NoFeed s → NoFeed t → NoFeed (s ++ t)
both [] t h k = k
both (b ∷ s) t h k = (h.0, both s t h.1 k)

-- a text behind its first line, and one with no line feed
lines_first : (t r : List ℕ) → NoFeed t → lines_of (t ++ feed ∷ r) ≡ t ∷ lines_of r
lines_first [] r h = refl
lines_first (b ∷ t) r h = rw (h.0, lines_first t r h.1) refl

lines_last : (b : ℕ) (t : List ℕ) → NoFeed (b ∷ t) → lines_of (b ∷ t) ≡ (b ∷ t) ∷ []
lines_last b [] h = rw h.0 refl
lines_last b (a ∷ t) h = rw (h.0, lines_last a t h.1) refl

-- ---- the first line feed

-- the text before it and behind it
pub record Split (s : List ℕ) : Type 0 where
  pub clear : NoFeed (take (first_feed s) s)
  pub text : s ≡ take (first_feed s) s ++ feed ∷ drop (suc (first_feed s)) s

split_cons : (b : ℕ) (s : List ℕ) (t : Bool) → eqb b feed ≡ t → (first_feed s < length s → Split s) → first_feed (b ∷ s) < length (b ∷ s) → Split (b ∷ s)
split_cons b s true e go h = record { clear = rw e tt; text = rw (e, eqb-true b feed e) refl }
split_cons b s false e go h =
    let k : suc (first_feed s) < length (b ∷ s) = rw e at h in
    let more : first_feed s < length s = omega arith in
    record { clear = rw e (e, (go more).clear); text = rw e (ap (λ (l : List ℕ). b ∷ l) (go more).text) }

pub split : (s : List ℕ) → first_feed s < length s → Split s
split [] h = absurd (omega arith)
split (b ∷ s) h = split_cons b s (eqb b feed) refl (split s) h

clear_cons : (b : ℕ) (s : List ℕ) (t : Bool) → eqb b feed ≡ t → (length s ≤ first_feed s → NoFeed s) → length (b ∷ s) ≤ first_feed (b ∷ s) → NoFeed (b ∷ s)
clear_cons b s true e go h = let k : length (b ∷ s) ≤ 0 = rw e at h in absurd (omega arith)
clear_cons b s false e go h = let k : length (b ∷ s) ≤ suc (first_feed s) = rw e at h in (e, go (omega arith))

pub clear : (s : List ℕ) → length s ≤ first_feed s → NoFeed s
clear [] h = tt
clear (b ∷ s) h = clear_cons b s (eqb b feed) refl (clear s) h

-- ---- no more than so many bytes are kept

take_kept : (n : ℕ) (t u : List ℕ) → take n (take n t ++ u) ≡ take n (t ++ u)
take_kept zero t u = refl
take_kept (suc n) [] u = refl
take_kept (suc n) (a ∷ t) u = ap (λ (l : List ℕ). a ∷ l) (take_kept n t u)

-- nothing is kept of nothing only
kept_none : (n : ℕ) (t : List ℕ) → 1 ≤ n → [] ≡ take n t → t ≡ []
kept_none zero t h e = absurd (omega arith)
kept_none (suc n) [] h e = refl
kept_none (suc n) (a ∷ t) h e = absurd (nil≢cons e)

-- ---- one piece

record Line (room : ℕ) (p s l rest : List ℕ) : Type 0 where
  pub found : first_feed s < length s
  pub line : l ≡ take room (p ++ take (first_feed s) s)
  pub behind : rest ≡ drop (suc (first_feed s)) s

cut_line : (room : ℕ) (p s l rest : List ℕ) → cut_at room p s ≡ whole_line l rest → Line room p s l rest
unfolding cut_at
cut_line room p s l rest e = go (ltb (first_feed s) (length s)) refl e
  where
    go : (t : Bool) → ltb (first_feed s) (length s) ≡ t → cond t (whole_line (take room (p ++ take (first_feed s) s)) (drop (first_feed s + 1) s)) (part_line (take room (p ++ s))) ≡ whole_line l rest → Line room p s l rest
    go true q f = record { found = ltb-true (first_feed s) (length s) q; line = cc; behind = cc (ap (λ (k : ℕ). drop k s) (add-one (first_feed s))) }
    go false q f = absurd (let z : ◌≡◌ {A = ℕ} 0 1 = cc in omega arith)

record Part (room : ℕ) (p s q : List ℕ) : Type 0 where
  pub none : length s ≤ first_feed s
  pub kept : q ≡ take room (p ++ s)

cut_part : (room : ℕ) (p s q : List ℕ) → cut_at room p s ≡ part_line q → Part room p s q
unfolding cut_at
cut_part room p s q e = go (ltb (first_feed s) (length s)) refl e
  where
    go : (t : Bool) → ltb (first_feed s) (length s) ≡ t → cond t (whole_line (take room (p ++ take (first_feed s) s)) (drop (first_feed s + 1) s)) (part_line (take room (p ++ s))) ≡ part_line q → Part room p s q
    go true h f = absurd (let z : ◌≡◌ {A = ℕ} 0 1 = cc in omega arith)
    go false h f = record { none = ltb-false (first_feed s) (length s) h; kept = cc }

lines_cut : (t s r : List ℕ) → NoFeed t → Split s → lines_of (t ++ (s ++ r)) ≡ (t ++ take (first_feed s) s) ∷ lines_of (drop (suc (first_feed s)) s ++ r)
lines_cut t s r c g =
    let a : List ℕ = take (first_feed s) s in
    let d : List ℕ = drop (suc (first_feed s)) s in
    let regroup : t ++ (a ++ feed ∷ d ++ r) ≡ t ++ a ++ feed ∷ (d ++ r) = ap (λ (l : List ℕ). t ++ l) (append_assoc a (feed ∷ d) r) ∙ sym (append_assoc t a (feed ∷ (d ++ r))) in
    ap (λ (l : List ℕ). lines_of (t ++ (l ++ r))) g.text ∙ ap lines_of regroup ∙ lines_first (t ++ a) (d ++ r) (both t a c g.clear)

-- ---- all pieces

module _ (room : ℕ) (some : 1 ≤ room) where
  handed : {p : List ℕ} {pieces lines : List (List ℕ)} → Handed room p pieces lines → (t : List ℕ) → p ≡ take room t → NoFeed t → lines ≡ map (take room) (lines_of (t ++ joined pieces))
  handed ended t e c = rw (kept_none room t some e) refl
  handed last_line [] e c = absurd (nil≢cons (sym (take-nil room) ∙ sym e))
  handed last_line (a ∷ t) e c =
      ap (λ (l : List ℕ). l ∷ []) e ∙ sym (ap (λ (x : List ℕ). map (take room) (lines_of x)) (append-nil (a ∷ t)) ∙ ap (map (take room)) (lines_last a t c))
  handed {p} (line {s = s} {l = l} {rest = rest} {pieces = pieces} k h) t e c =
      let g = cut_line room p s l rest k in
      let front : l ≡ take room (t ++ take (first_feed s) s) = g.line ∙ ap (λ (x : List ℕ). take room (x ++ take (first_feed s) s)) e ∙ take_kept room t (take (first_feed s) s) in
      let behind = handed h [] (sym (take-nil room)) tt ∙ ap (λ (x : List ℕ). map (take room) (lines_of (x ++ joined pieces))) g.behind in
      (λ i. front i ∷ behind i) ∙ sym (ap (map (take room)) (lines_cut t s (joined pieces) c (split s g.found)))
  handed {p} (no_feed {s = s} {q = q} {pieces = pieces} k h) t e c =
      let g = cut_part room p s q k in
      let kept : q ≡ take room (t ++ s) = g.kept ∙ ap (λ (x : List ℕ). take room (x ++ s)) e ∙ take_kept room t s in
      handed h (t ++ s) kept (both t s c (clear s g.none)) ∙ ap (λ (x : List ℕ). map (take room) (lines_of x)) (append_assoc t s (joined pieces))

  -- the lines handed on are those of the whole text, of each no more than `room` bytes
  pub handed_all : {pieces lines : List (List ℕ)} → Handed room [] pieces lines → lines ≡ map (take room) (lines_of (joined pieces))
  handed_all h = handed h [] (sym (take-nil room)) tt

-- ---- a line that is cut reads as the whole line does

pub kept_line : (room : ℕ) (l : List ℕ) → longest_line < room → line_bytes (take room l) ≡ line_bytes l
unfolding line_bytes
kept_line room l h = go (ltb room (length l)) refl
  where
    go : (t : Bool) → ltb room (length l) ≡ t → line_bytes (take room l) ≡ line_bytes l
    go true e =
        let long : room < length l = ltb-true room (length l) e in
        let cut : length (take room l) ≡ room = length-take-le room l (omega arith) in
        simp (lt-ltb longest_line (length (take room l)) (omega arith), lt-ltb longest_line (length l) (omega arith), or-true)
    go false e = ap line_bytes (take_all room l (ltb-false room (length l) e))

map_kept : (room : ℕ) (ls : List (List ℕ)) → longest_line < room → map line_bytes (map (take room) ls) ≡ map line_bytes ls
map_kept room [] h = refl
map_kept room (l ∷ ls) h = λ i. kept_line room l h i ∷ map_kept room ls h i

-- so what is read of the lines handed on is what is read of the text's lines
pub handed_read : (room : ℕ) {pieces lines : List (List ℕ)} → longest_line < room → Handed room [] pieces lines → map line_bytes lines ≡ map line_bytes (lines_of (joined pieces))
handed_read room {pieces} h d = ap (map line_bytes) (handed_all room (omega arith) d) ∙ map_kept room (lines_of (joined pieces)) h
