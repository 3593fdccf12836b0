-- The laws of the changes held in segments: without words they are today's, their bytes are counted from the open segment alone, a Whole adds its
-- changes whether its segment is closed or not, clearing leaves none. Assumes nothing.
use mathlib.Core.Path.{◌≡◌, refl, sym, ap, subst, ◌∙◌}
use mathlib.Core.Bool.{Bool, true, false, cond, ◌&&◌}
use mathlib.Core.List.{List, [], ◌∷◌, ◌++◌, append_assoc, append-nil}
use Prim.Native.Nat.{ℕ, ◌+◌, ◌-◌, ◌≤◌, ◌<◌}
use native.Mathlib.Nat.{sub-zero, zero-add}
use native.Mathlib.Omega.{arith}
use lib.Dec.{T, ltb, leb}
use lib.ListN.{length, take, drop, length-drop, take-append-drop}
use lib.Seq.{take_all, take-take, drop-drop, length-take-le}
use borrow.Author.Tests.{ltb-true, leb-true}
use Rattle.model_frame.specs.Bytes.{is_bytes}
use Rattle.model_frame.specs.Frame.{Change}
use Rattle.model_frame.specs.Sizes.{sizes}
use Rattle.model_frame.proofs.Le.{bytes_take, bytes_drop}
use Rattle.model_frame.proofs.Runs.{sizes_append}
use Rattle.base_laws.proofs.Lists.{drop_take}
use Rattle.frame_op.specs.Answers.{held_run}
use Rattle.standby_changes.specs.Held.{TakesAll}
use Rattle.standby_changes.proofs.Held.{held_none, held_cut, held_sizes, held_append}
use Rattle.standby_segments.specs.Segments.{closed_ends, open_from, total_run, held_from, held_changes}
use Rattle.standby_segments.proofs.Ends.{ends_none, open_within, ends_shorter}
use Rattle.standby_segments.proofs.Total.{total_sizes, total_held}

-- ---- ends that rise and stay within the length

abbrev pub Rises : ℕ → List ℕ → ℕ → Type 0
Rises from [] len = from ≤ len
Rises from (e ∷ es) len = (from < e) × Rises e es len

pub rises : (es : List ℕ) (last len : ℕ) → last ≤ len → Rises last (closed_ends es last len) len
rises [] last len h = h
rises (e ∷ es) last len h = go (ltb last e) refl (leb e len) refl (rises es e len)
  where
    go : (a : Bool) → ltb last e ≡ a → (b : Bool) → leb e len ≡ b → (e ≤ len → Rises e (closed_ends es e len) len) → Rises last (cond (a && b) (e ∷ closed_ends es e len) []) len
    go true p true q ih = (ltb-true last e p, ih (leb-true e len q))
    go true p false q ih = h
    go false p b q ih = h

pub rises_up : (es : List ℕ) (from len : ℕ) → Rises from es len → from ≤ open_from from es
rises_up [] from len r = omega arith
rises_up (e ∷ es) from len r = omega (arith, r.0, rises_up es e len r.1)

rises_in : (es : List ℕ) (from len : ℕ) → Rises from es len → open_from from es ≤ len
rises_in [] from len r = r
rises_in (e ∷ es) from len r = rises_in es e len r.1

-- ---- the closed segments by themselves

module _ (version : ℕ) where
  abbrev pub closed_run : List ℕ → ℕ → List ℕ → List Change
  closed_run [] from s = []
  closed_run (e ∷ es) from s = total_run version (take (e - from) s) ++ closed_run es e (drop (e - from) s)

  -- what lies behind the open segment's beginning, seen from one segment on
  further : (es : List ℕ) (from e len : ℕ) (s : List ℕ) → from < e → Rises e es len → drop (open_from e es - e) (drop (e - from) s) ≡ drop (open_from e es - from) s
  further es from e len s less r =
      let sum : (e - from) + (open_from e es - e) ≡ open_from e es - from = omega (arith, less, rises_up es e len r) in
      drop-drop (open_from e es - e) (e - from) s ∙ ap (λ (k : ℕ). drop k s) sum

  held_split : (es : List ℕ) (from len : ℕ) (s : List ℕ) → Rises from es len → held_from version es from s ≡ closed_run es from s ++ held_run version (drop (open_from from es - from) s)
  held_split [] from len s r = ap (λ (k : ℕ). held_run version (drop k s)) zero-off
    where
      zero-off : 0 ≡ from - from
      zero-off = omega arith
  held_split (e ∷ es) from len s r =
      ap (λ (cs : List Change). total_run version (take (e - from) s) ++ cs) (held_split es e len (drop (e - from) s) r.1 ∙ ap (λ (t : List ℕ). closed_run es e (drop (e - from) s) ++ held_run version t) (further es from e len s r.0 r.1))
      ∙ sym (append_assoc (total_run version (take (e - from) s)) (closed_run es e (drop (e - from) s)) (held_run version (drop (open_from e es - from) s)))

  -- one more segment closed where the bytes end
  held_more_ends : (es : List ℕ) (from e : ℕ) (s : List ℕ) → Rises from es e → from + length s ≡ e
      → held_from version (es ++ (e ∷ [])) from s ≡ closed_run es from s ++ total_run version (drop (open_from from es - from) s)
  held_more_ends [] from e s r size =
      let all : length s ≤ e - from = omega (arith, size) in
      let off : 0 ≡ from - from = omega arith in
      let out : length (drop (e - from) s) ≤ 0 = omega (arith, length-drop (e - from) s, size) in
      ap (λ (t : List ℕ). total_run version t ++ held_run version (drop (e - from) s)) (take_all (e - from) s all)
      ∙ ap (λ (cs : List Change). total_run version s ++ cs) (held_none version (drop (e - from) s) out)
      ∙ append-nil (total_run version s)
      ∙ ap (λ (k : ℕ). total_run version (drop k s)) off
  held_more_ends (x ∷ es) from e s r size =
      let size' : x + length (drop (x - from) s) ≡ e = omega (arith, length-drop (x - from) s, size, r.0, rises_up es x e r.1, rises_in es x e r.1) in
      ap (λ (cs : List Change). total_run version (take (x - from) s) ++ cs)
      (held_more_ends es x e (drop (x - from) s) r.1 size' ∙ ap (λ (t : List ℕ). closed_run es x (drop (x - from) s) ++ total_run version t) (further es from x e s r.0 r.1))
      ∙ sym (append_assoc (total_run version (take (x - from) s)) (closed_run es x (drop (x - from) s)) (total_run version (drop (open_from x es - from) s)))

  -- they take their bytes, all of them
  closed_size : (es : List ℕ) (from : ℕ) (s : List ℕ) → T (is_bytes s) → Rises from es (from + length s) → from + sizes (closed_run es from s) ≡ open_from from es
  closed_size [] from s h r = omega arith
  closed_size (e ∷ es) from s h r =
      let up = rises_up es e (from + length s) r.1 in
      let in_ = rises_in es e (from + length s) r.1 in
      let len' : from + length s ≡ e + length (drop (e - from) s) = omega (arith, r.0, up, in_, length-drop (e - from) s) in
      let rest = closed_size es e (drop (e - from) s) (bytes_drop (e - from) s h) (subst (Rises e es) len' r.1) in
      omega (
        arith,
        r.0,
        up,
        in_,
        sizes_append (total_run version (take (e - from) s)) (closed_run es e (drop (e - from) s)),
        total_sizes version (take (e - from) s) (bytes_take (e - from) s h),
        length-take-le (e - from) s (omega (arith, r.0, up, in_)),
        rest,
      )

  -- they are told by the bytes before the open segment
  closed_same : (es : List ℕ) (from len : ℕ) (s t : List ℕ) → Rises from es len → take (open_from from es - from) s ≡ take (open_from from es - from) t → closed_run es from s ≡ closed_run es from t
  closed_same [] from len s t r h = refl
  closed_same (e ∷ es) from len s t r h =
      let up = rises_up es e len r.1 in
      let low : e - from ≤ open_from e es - from = omega (arith, r.0, up) in
      let sum : open_from e es - from ≡ (e - from) + (open_from e es - e) = omega (arith, r.0, up) in
      let first : take (e - from) s ≡ take (e - from) t =
      sym (take-take (e - from) (open_from e es - from) s low) ∙ ap (take (e - from)) h ∙ take-take (e - from) (open_from e es - from) t low in
      let second : take (open_from e es - e) (drop (e - from) s) ≡ take (open_from e es - e) (drop (e - from) t) =
      sym (drop_take (e - from) (open_from e es - e) s)
      ∙ ap (drop (e - from)) (subst (λ (k : ℕ). take k s ≡ take k t) sum h)
      ∙ drop_take (e - from) (open_from e es - e) t in
      ap (λ (l : List ℕ). total_run version l ++ closed_run es e (drop (e - from) s)) first
      ∙ ap (λ (cs : List Change). total_run version (take (e - from) t) ++ cs) (closed_same es e len (drop (e - from) s) (drop (e - from) t) r.1 second)

  -- ---- THE LAWS

  -- with no words it is today's meaning: the longest run of valid changes
  pub no_words : (s : List ℕ) → held_changes version [] s ≡ held_run version s
  no_words s = refl

  -- so it is with words of which none counts
  pub none_closed : (ends s : List ℕ) → closed_ends ends 0 (length s) ≡ [] → held_changes version ends s ≡ held_run version s
  none_closed ends s e = ap (λ (es : List ℕ). held_from version es 0 s) e

  -- with nothing held there is none, whatever the words: clearing writes no word
  pub none_held : (ends : List ℕ) → held_changes version ends [] ≡ []
  none_held ends = ap (λ (es : List ℕ). held_from version es 0 []) (ends_none ends 0) ∙ held_none version [] (omega arith)

  -- closed segments that are all changes, as the operations leave them
  abbrev pub EachTakesAll : List ℕ → ℕ → List ℕ → Type 0
  EachTakesAll [] from s = Unit {0}
  EachTakesAll (e ∷ es) from s = TakesAll version (take (e - from) s) × EachTakesAll es e (drop (e - from) s)

  plain_from : (es : List ℕ) (from : ℕ) (s : List ℕ) → T (is_bytes s) → EachTakesAll es from s → held_from version es from s ≡ held_run version s
  plain_from [] from s h all = refl
  plain_from (e ∷ es) from s h all =
      let front : List ℕ = take (e - from) s in
      let back : List ℕ = drop (e - from) s in
      ap (λ (cs : List Change). cs ++ held_from version es e back) (total_held version front (bytes_take (e - from) s h) all.0)
      ∙ ap (λ (cs : List Change). held_run version front ++ cs) (plain_from es e back (bytes_drop (e - from) s h) all.1)
      ∙ sym (held_append version front back (bytes_take (e - from) s h) (bytes_drop (e - from) s h) all.0)
      ∙ ap (held_run version) (take-append-drop (e - from) s)

  -- told by the bytes before the open segment, as the changes are
  pub each_same : (es : List ℕ) (from len : ℕ) (s t : List ℕ) → Rises from es len → take (open_from from es - from) s ≡ take (open_from from es - from) t → EachTakesAll es from s → EachTakesAll es from t
  each_same [] from len s t r h all = tt
  each_same (e ∷ es) from len s t r h all =
      let up = rises_up es e len r.1 in
      let low : e - from ≤ open_from e es - from = omega (arith, r.0, up) in
      let sum : open_from e es - from ≡ (e - from) + (open_from e es - e) = omega (arith, r.0, up) in
      let first : take (e - from) s ≡ take (e - from) t =
      sym (take-take (e - from) (open_from e es - from) s low) ∙ ap (take (e - from)) h ∙ take-take (e - from) (open_from e es - from) t low in
      let second : take (open_from e es - e) (drop (e - from) s) ≡ take (open_from e es - e) (drop (e - from) t) =
      sym (drop_take (e - from) (open_from e es - e) s)
      ∙ ap (drop (e - from)) (subst (λ (k : ℕ). take k s ≡ take k t) sum h)
      ∙ drop_take (e - from) (open_from e es - e) t in
      (subst (TakesAll version) first all.0, each_same es e len (drop (e - from) s) (drop (e - from) t) r.1 second all.1)

  -- one more, where the bytes end
  pub each_more : (es : List ℕ) (from e : ℕ) (t : List ℕ) → Rises from es e → from + length t ≡ e → EachTakesAll es from t → TakesAll version (drop (open_from from es - from) t) → EachTakesAll (es ++ (e ∷ [])) from t
  each_more [] from e t r size all more =
      let off : from - from ≡ 0 = omega arith in
      (subst (TakesAll version) (ap (λ (k : ℕ). drop k t) off ∙ sym (take_all (e - from) t (omega (arith, size)))) more, tt)
  each_more (x ∷ es) from e t r size all more =
      let size' : x + length (drop (x - from) t) ≡ e = omega (arith, length-drop (x - from) t, size, r.0, rises_up es x e r.1, rises_in es x e r.1) in
      (all.0, each_more es x e (drop (x - from) t) r.1 size' all.1 (subst (TakesAll version) (sym (further es from x e t r.0 r.1)) more))

  -- then the words don't matter, and it is today's meaning
  pub as_before : (ends s : List ℕ) → T (is_bytes s) → EachTakesAll (closed_ends ends 0 (length s)) 0 s → held_changes version ends s ≡ held_run version s
  as_before ends s h all = plain_from (closed_ends ends 0 (length s)) 0 s h all

  module _ (ends s : List ℕ) (h : T (is_bytes s)) where
    abbrev pub Ends : List ℕ
    Ends = closed_ends ends 0 (length s)

    -- where the open segment begins, and its bytes
    abbrev pub From : ℕ
    From = open_from 0 (closed_ends ends 0 (length s))

    abbrev pub Behind : List ℕ
    Behind = drop (open_from 0 (closed_ends ends 0 (length s))) s

    pub from_within : From ≤ length s
    from_within = open_within ends 0 (length s) (omega arith)

    pub ends_rise : Rises 0 Ends (length s)
    ends_rise = rises ends 0 (length s) (omega arith)

    -- the closed segments' changes and the open one's
    pub held_parts : held_changes version ends s ≡ closed_run Ends 0 s ++ held_run version Behind
    held_parts = held_split Ends 0 (length s) s ends_rise ∙ ap (λ (k : ℕ). closed_run Ends 0 s ++ held_run version (drop k s)) (sub-zero From)

    closed_sizes : sizes (closed_run Ends 0 s) ≡ From
    closed_sizes =
        let r : Rises 0 Ends (0 + length s) = subst (Rises 0 Ends) (sym (zero-add (length s))) ends_rise in
        omega (arith, closed_size Ends 0 s h r)

    -- THE BYTES HELD, without reading a closed segment: where the open one begins, and the bytes of its run
    pub held_length : sizes (held_changes version ends s) ≡ From + sizes (held_run version Behind)
    held_length = ap sizes held_parts ∙ sizes_append (closed_run Ends 0 s) (held_run version Behind) ∙ ap (λ (k : ℕ). k + sizes (held_run version Behind)) closed_sizes

    pub behind_bytes : T (is_bytes Behind)
    behind_bytes = bytes_drop From s h

    pub held_short : sizes (held_changes version ends s) ≤ length s
    held_short = omega (arith, held_length, held_sizes version Behind behind_bytes, length-drop From s, from_within)

    -- the open segment's run, and any bytes that begin with all of it
    module _ (t ends' : List ℕ) (front : take From t ≡ take From s) (long : From ≤ length t) where
      pub rise_too : Rises 0 Ends (length t)
      rise_too = lower Ends 0 (length s) ends_rise long
        where
          lower : (es : List ℕ) (from len : ℕ) → Rises from es len → open_from from es ≤ length t → Rises from es (length t)
          lower [] from len r h = h
          lower (e ∷ es) from len r h = (r.0, lower es e len r.1 h)

      same_closed : closed_run Ends 0 t ≡ closed_run Ends 0 s
      same_closed = closed_same Ends 0 (length s) t s ends_rise (subst (λ (k : ℕ). take k t ≡ take k s) (sym (sub-zero From)) front)

      -- the same words count
      pub goes_on : closed_ends ends' 0 (length t) ≡ Ends → held_changes version ends' t ≡ closed_run Ends 0 s ++ held_run version (drop From t)
      goes_on e =
          ap (λ (es : List ℕ). held_from version es 0 t) e
          ∙ held_split Ends 0 (length t) t rise_too
          ∙ ap (λ (k : ℕ). closed_run Ends 0 t ++ held_run version (drop k t)) (sub-zero From)
          ∙ ap (λ (cs : List Change). cs ++ held_run version (drop From t)) same_closed

      -- one more counts, where they end
      pub is_closed : closed_ends ends' 0 (length t) ≡ Ends ++ (length t ∷ []) → held_changes version ends' t ≡ closed_run Ends 0 s ++ total_run version (drop From t)
      is_closed e =
          ap (λ (es : List ℕ). held_from version es 0 t) e
          ∙ held_more_ends Ends 0 (length t) t rise_too (zero-add (length t))
          ∙ ap (λ (k : ℕ). closed_run Ends 0 t ++ total_run version (drop k t)) (sub-zero From)
          ∙ ap (λ (cs : List Change). cs ++ total_run version (drop From t)) same_closed

    -- segments that are all changes stay so in bytes that begin with them
    pub plain_on : (t : List ℕ) → take From t ≡ take From s → EachTakesAll Ends 0 s → EachTakesAll Ends 0 t
    plain_on t front all = each_same Ends 0 (length s) s t ends_rise (subst (λ (k : ℕ). take k s ≡ take k t) (sym (sub-zero From)) (sym front)) all

    -- 17, AND A RECORD PUT ANEW: with as many bytes as the changes take they are the same, with the same words
    pub held_again : held_changes version ends (take (sizes (held_changes version ends s)) s) ≡ held_changes version ends s
    held_again =
        let used : ℕ = sizes (held_changes version ends s) in
        let size : length (take used s) ≡ used = length-take-le used s held_short in
        let low : From ≤ used = omega (arith, held_length) in
        let count : closed_ends ends 0 (length (take used s)) ≡ Ends = ap (closed_ends ends 0) size ∙ ends_shorter ends 0 (length s) used low held_short in
        let sum : used ≡ From + sizes (held_run version Behind) = held_length in
        goes_on (take used s) ends (take-take From used s low) (omega (arith, size, low)) count
        ∙ ap (λ (k : ℕ). closed_run Ends 0 s ++ held_run version (drop From (take k s))) sum
        ∙ ap (λ (l : List ℕ). closed_run Ends 0 s ++ held_run version l) (drop_take From (sizes (held_run version Behind)) s)
        ∙ ap (λ (cs : List Change). closed_run Ends 0 s ++ cs) (held_cut version Behind behind_bytes)
        ∙ sym held_parts
