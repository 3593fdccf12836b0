-- A Whole: its changes are written behind those held, and the open segment is closed or stays open. What is held then is what was held and its
-- changes; segments that are all changes stay so. Assumes nothing.
use mathlib.Core.Path.{◌≡◌, refl, sym, ap, subst, ◌∙◌}
use mathlib.Core.Bool.{Bool, true, false, cond}
use mathlib.Core.List.{List, [], ◌∷◌, ◌++◌, append_assoc}
use mathlib.Core.Logic.{◌⊎◌, inl, inr}
use Prim.Native.Nat.{ℕ, ◌+◌, ◌-◌, ◌≤◌, ◌<◌}
use native.Mathlib.Nat.{sub-zero, zero-add}
use native.Mathlib.Omega.{arith}
use lib.Dec.{T, ltb, leb}
use lib.ListN.{length, take, drop, set, length-append, length-drop}
use lib.Seq.{take_at, take-take, drop-append-le, take-append-le, length-take-le}
use borrow.Author.Tests.{ltb-true, ltb-false, leb-true, leb-false}
use Rattle.model_frame.specs.Bytes.{is_bytes, write}
use Rattle.model_frame.specs.Frame.{Change}
use Rattle.model_frame.specs.Sizes.{sizes}
use Rattle.model_frame.proofs.Le.{bytes_take, bytes_drop, bytes_append}
use Rattle.model_frame.proofs.Runs.{sizes_append}
use Rattle.base_laws.proofs.Lists.{drop_take}
use Rattle.base_laws.proofs.Little.{write_is}
use Rattle.frame_op.specs.Answers.{held_run}
use Rattle.standby_changes.specs.Held.{TakesAll}
use Rattle.standby_changes.proofs.Held.{held_cut, held_sizes, held_append}
use Rattle.standby_segments.specs.Segments.{closed_ends, open_from, held_changes, segment_bytes, end_for, ends_after}
use Rattle.standby_segments.proofs.Ends.{open_more, ends_alone, ends_shorter, ends_cleared, ends_closed, ends_full}
use Rattle.standby_segments.proofs.Total.{total_held}
use Rattle.standby_segments.proofs.Meaning.{closed_run, EachTakesAll, each_more, plain_on, Ends, From, Behind, held_parts, held_length, held_short, goes_on, is_closed, rise_too}

module _ (version : ℕ) where
  module _ (ends area run : List ℕ) (len : ℕ) (ha : T (is_bytes area)) (hr : T (is_bytes run)) (all : TakesAll version run) (inside : len ≤ length area) where
    abbrev pub S : List ℕ
    S = take len area

    pub bs : T (is_bytes S)
    bs = bytes_take len area ha

    size_s : length S ≡ len
    size_s = length-take-le len area inside

    abbrev pub Used : ℕ
    Used = sizes (held_changes version ends (take len area))

    module _ (room : Used + length run ≤ length area) where
      abbrev pub After : List ℕ
      After = take (Used + length run) (write area Used run)

      short : Used ≤ len
      short = omega (arith, held_short version ends S bs, size_s)

      after_is : After ≡ take Used S ++ run
      after_is =
          let size : length (take Used area ++ run) ≡ Used + length run = omega (arith, length-append (take Used area) run, length-take-le Used area (omega (arith, room))) in
          ap (take (Used + length run)) (write_is area Used run room)
          ∙ take_at (take Used area ++ run) (drop (Used + length run) area) (Used + length run) size
          ∙ ap (λ (l : List ℕ). l ++ run) (sym (take-take Used len area short))

      low : From version ends S bs ≤ Used
      low = omega (arith, held_length version ends S bs)

      size_used : length (take Used S) ≡ Used
      size_used = length-take-le Used S (omega (arith, size_s, short))

      size_after : length After ≡ Used + length run
      size_after = ap length after_is ∙ omega (arith, length-append (take Used S) run, size_used)

      front_same : take (From version ends S bs) After ≡ take (From version ends S bs) S
      front_same =
          ap (take (From version ends S bs)) after_is
          ∙ take-append-le (From version ends S bs) (take Used S) run (omega (arith, size_used, low))
          ∙ take-take (From version ends S bs) Used S low

      abbrev OpenRun : List Change
      OpenRun = held_run version (drop (open_from 0 (closed_ends ends 0 (length (take len area)))) (take len area))

      behind_is : drop (From version ends S bs) After ≡ take (sizes OpenRun) (Behind version ends S bs) ++ run
      behind_is =
          let sum : Used ≡ From version ends S bs + sizes OpenRun = held_length version ends S bs in
          ap (drop (From version ends S bs)) after_is
          ∙ drop-append-le (From version ends S bs) (take Used S) run (omega (arith, size_used, low))
          ∙ ap (λ (k : ℕ). drop (From version ends S bs) (take k S) ++ run) sum
          ∙ ap (λ (l : List ℕ). l ++ run) (drop_take (From version ends S bs) (sizes OpenRun) S)

      cut : held_run version (take (sizes OpenRun) (Behind version ends S bs)) ≡ OpenRun
      cut = held_cut version (Behind version ends S bs) (bytes_drop (From version ends S bs) S bs)

      cut_bytes : T (is_bytes (take (sizes OpenRun) (Behind version ends S bs)))
      cut_bytes = bytes_take (sizes OpenRun) (Behind version ends S bs) (bytes_drop (From version ends S bs) S bs)

      cut_all : TakesAll version (take (sizes OpenRun) (Behind version ends S bs))
      cut_all = ap sizes cut ∙ sym (length-take-le (sizes OpenRun) (Behind version ends S bs) (held_sizes version (Behind version ends S bs) (bytes_drop (From version ends S bs) S bs)))

      -- the open segment then has its changes and the new ones
      open_run : held_run version (drop (From version ends S bs) After) ≡ OpenRun ++ held_run version run
      open_run =
          ap (held_run version) behind_is
          ∙ held_append version (take (sizes OpenRun) (Behind version ends S bs)) run cut_bytes hr cut_all
          ∙ ap (λ (cs : List Change). cs ++ held_run version run) cut

      open_bytes : T (is_bytes (drop (From version ends S bs) After))
      open_bytes = subst (λ (l : List ℕ). T (is_bytes l)) (sym behind_is) (bytes_append (take (sizes OpenRun) (Behind version ends S bs)) run cut_bytes hr)

      -- and these take all of its bytes
      open_all : TakesAll version (drop (From version ends S bs) After)
      open_all =
          ap sizes open_run
          ∙ sizes_append OpenRun (held_run version run)
          ∙ omega (
            arith,
            all,
            length-drop (From version ends S bs) After,
            size_after,
            held_length version ends S bs,
          )

      together : closed_run version (Ends version ends S bs) 0 S ++ (OpenRun ++ held_run version run) ≡ held_changes version ends S ++ held_run version run
      together =
          sym (append_assoc (closed_run version (Ends version ends S bs) 0 S) OpenRun (held_run version run))
          ∙ ap (λ (cs : List Change). cs ++ held_run version run) (sym (held_parts version ends S bs))

      module _ (ends' : List ℕ) where
        long_after : From version ends S bs ≤ length After
        long_after = omega (arith, size_after, low)

        -- the segment stays open
        open_after : closed_ends ends' 0 (length After) ≡ Ends version ends S bs → held_changes version ends' After ≡ held_changes version ends S ++ held_run version run
        open_after e =
            goes_on version ends S bs After ends' front_same long_after e
            ∙ ap (λ (cs : List Change). closed_run version (Ends version ends S bs) 0 S ++ cs) open_run
            ∙ together

        -- the segment is closed
        closed_after : closed_ends ends' 0 (length After) ≡ Ends version ends S bs ++ (length After ∷ []) → held_changes version ends' After ≡ held_changes version ends S ++ held_run version run
        closed_after e =
            is_closed version ends S bs After ends' front_same long_after e
            ∙ ap (λ (cs : List Change). closed_run version (Ends version ends S bs) 0 S ++ cs) (total_held version (drop (From version ends S bs) After) open_bytes open_all ∙ open_run)
            ∙ together

      -- one word is written behind those that count, if there is one left, whatever stood there
      words_after : (v : ℕ) → (v ≡ length After) ⊎ (v ≡ 0) → (From version ends S bs < length After) ⊎ (v ≡ 0)
          → (closed_ends (set ends (length (Ends version ends S bs)) v) 0 (length After) ≡ Ends version ends S bs)
          ⊎ (closed_ends (set ends (length (Ends version ends S bs)) v) 0 (length After) ≡ Ends version ends S bs ++ (length After ∷ []))
      words_after v (inr none) above = inl (ap (λ (k : ℕ). closed_ends (set ends (length (Ends version ends S bs)) k) 0 (length After)) none ∙ ends_cleared ends 0 (length S) (length After) (long_after ends))
      words_after v (inl whole) (inr none) = inl (ap (λ (k : ℕ). closed_ends (set ends (length (Ends version ends S bs)) k) 0 (length After)) none ∙ ends_cleared ends 0 (length S) (length After) (long_after ends))
      words_after v (inl whole) (inl above) = go (ltb (length (Ends version ends S bs)) (length ends)) refl
        where
          go : (t : Bool) → ltb (length (Ends version ends S bs)) (length ends) ≡ t
              → (closed_ends (set ends (length (Ends version ends S bs)) v) 0 (length After) ≡ Ends version ends S bs)
              ⊎ (closed_ends (set ends (length (Ends version ends S bs)) v) 0 (length After) ≡ Ends version ends S bs ++ (length After ∷ []))
          go true e =
              inr (
              ap (λ (k : ℕ). closed_ends (set ends (length (Ends version ends S bs)) k) 0 (length After)) whole
              ∙ ends_closed ends 0 (length S) (length After) above (ltb-true (length (Ends version ends S bs)) (length ends) e)
              )
          go false e = inl (ends_full ends 0 (length S) (length After) v (long_after ends) (ltb-false (length (Ends version ends S bs)) (length ends) e))

      -- THE CHANGES HELD AND THE NEW ONES, where the segment's end or a 0 is written behind the words that count
      pub held_by : (v : ℕ) → (v ≡ length After) ⊎ (v ≡ 0) → (From version ends S bs < length After) ⊎ (v ≡ 0)
          → held_changes version (set ends (length (Ends version ends S bs)) v) After ≡ held_changes version ends S ++ held_run version run
      held_by v is above = by (words_after v is above)
        where
          by : (closed_ends (set ends (length (Ends version ends S bs)) v) 0 (length After) ≡ Ends version ends S bs)
              ⊎ (closed_ends (set ends (length (Ends version ends S bs)) v) 0 (length After) ≡ Ends version ends S bs ++ (length After ∷ []))
              → held_changes version (set ends (length (Ends version ends S bs)) v) After ≡ held_changes version ends S ++ held_run version run
          by (inl same) = open_after (set ends (length (Ends version ends S bs)) v) same
          by (inr more) = closed_after (set ends (length (Ends version ends S bs)) v) more

      -- A LASTWHOLE writes no word: with those that count alone, what stands there then is what was held and its changes
      pub held_last : held_changes version (closed_ends ends 0 len) After ≡ held_changes version ends S ++ held_run version run
      held_last =
          ap (λ (n : ℕ). held_changes version (closed_ends ends 0 n) After) (sym size_s)
          ∙ open_after (Ends version ends S bs) (ends_alone ends 0 (length S) (length After) (long_after ends))

      -- SEGMENTS THAT ARE ALL CHANGES stay so, and a new one is: by `as_before` what the operations left means what it means today
      pub plain_by : (v : ℕ) → (v ≡ length After) ⊎ (v ≡ 0) → (From version ends S bs < length After) ⊎ (v ≡ 0) → EachTakesAll version (Ends version ends S bs) 0 S
          → EachTakesAll version (closed_ends (set ends (length (Ends version ends S bs)) v) 0 (length After)) 0 After
      plain_by v is above plain = by (words_after v is above)
        where
          kept : EachTakesAll version (Ends version ends S bs) 0 After
          kept = plain_on version ends S bs After front_same plain

          by : (closed_ends (set ends (length (Ends version ends S bs)) v) 0 (length After) ≡ Ends version ends S bs)
              ⊎ (closed_ends (set ends (length (Ends version ends S bs)) v) 0 (length After) ≡ Ends version ends S bs ++ (length After ∷ []))
              → EachTakesAll version (closed_ends (set ends (length (Ends version ends S bs)) v) 0 (length After)) 0 After
          by (inl same) = subst (λ (es : List ℕ). EachTakesAll version es 0 After) (sym same) kept
          by (inr more) =
              subst (λ (es : List ℕ). EachTakesAll version es 0 After) (sym more)
              (each_more version (Ends version ends S bs) 0 (length After) After (rise_too version ends S bs After ends front_same (long_after ends)) (zero-add (length After)) kept (subst (λ (k : ℕ). TakesAll version (drop k After)) (sym (sub-zero (From version ends S bs))) open_all))

      -- the words that count are the same by what the changes held take as by what the record says is held
      pub ends_by_used : (n : ℕ) → ends_after ends len n ≡ ends_after ends Used n
      ends_by_used n = ap (λ (es : List ℕ). set ends (length es) (end_for (open_from 0 es) n)) (ap (closed_ends ends 0) (sym size_s) ∙ sym (ends_shorter ends 0 (length S) Used low (held_short version ends S bs)))

      pub held_after : held_changes version (ends_after ends len (Used + length run)) After ≡ held_changes version ends S ++ held_run version run
      held_after =
          ap (λ (n : ℕ). held_changes version (ends_after ends n (Used + length run)) After) (sym size_s)
          ∙ go (leb segment_bytes (Used + length run - From version ends S bs)) refl
        where
          go : (t : Bool) → leb segment_bytes (Used + length run - From version ends S bs) ≡ t
              → held_changes version (set ends (length (Ends version ends S bs)) (cond t (Used + length run) 0)) After ≡ held_changes version ends S ++ held_run version run
          go true e =
              let far : 65536 ≤ Used + length run - From version ends S bs = leb-true 65536 (Used + length run - From version ends S bs) e in
              held_by (Used + length run) (inl (sym size_after)) (inl (omega (arith, far, size_after)))
          go false e = held_by 0 (inr refl) (inr refl)

      pub plain_after : EachTakesAll version (Ends version ends S bs) 0 S → EachTakesAll version (closed_ends (ends_after ends len (Used + length run)) 0 (length After)) 0 After
      plain_after plain = subst (λ (n : ℕ). EachTakesAll version (closed_ends (ends_after ends n (Used + length run)) 0 (length After)) 0 After) size_s (go (leb segment_bytes (Used + length run - From version ends S bs)) refl)
        where
          go : (t : Bool) → leb segment_bytes (Used + length run - From version ends S bs) ≡ t
              → EachTakesAll version (closed_ends (set ends (length (Ends version ends S bs)) (cond t (Used + length run) 0)) 0 (length After)) 0 After
          go true e =
              let far : 65536 ≤ Used + length run - From version ends S bs = leb-true 65536 (Used + length run - From version ends S bs) e in
              plain_by (Used + length run) (inl (sym size_after)) (inl (omega (arith, far, size_after))) plain
          go false e = plain_by 0 (inr refl) (inr refl) plain

      -- THE COST: if there was a word for it, fewer than 65,536 bytes stand behind the words that count then, whatever stood there
      pub open_short : length (Ends version ends S bs) < length ends → length After - open_from 0 (closed_ends (ends_after ends len (Used + length run)) 0 (length After)) < 65536
      open_short room-left =
          subst (λ (n : ℕ). length After - open_from 0 (closed_ends (ends_after ends n (Used + length run)) 0 (length After)) < 65536) size_s
          (go (leb segment_bytes (Used + length run - From version ends S bs)) refl)
        where
          go : (t : Bool) → leb segment_bytes (Used + length run - From version ends S bs) ≡ t
              → length After - open_from 0 (closed_ends (set ends (length (Ends version ends S bs)) (cond t (Used + length run) 0)) 0 (length After)) < 65536
          go true e =
              let far : 65536 ≤ Used + length run - From version ends S bs = leb-true 65536 (Used + length run - From version ends S bs) e in
              let more : closed_ends (set ends (length (Ends version ends S bs)) (Used + length run)) 0 (length After) ≡ Ends version ends S bs ++ (length After ∷ []) =
              ap (λ (k : ℕ). closed_ends (set ends (length (Ends version ends S bs)) k) 0 (length After)) (sym size_after)
              ∙ ends_closed ends 0 (length S) (length After) (omega (arith, far, size_after)) room-left in
              let at : open_from 0 (closed_ends (set ends (length (Ends version ends S bs)) (Used + length run)) 0 (length After)) ≡ length After =
              ap (open_from 0) more ∙ open_more 0 (Ends version ends S bs) (length After) in
              omega (arith, at)
          go false e =
              let near : Used + length run - From version ends S bs < 65536 = leb-false 65536 (Used + length run - From version ends S bs) e in
              let at : open_from 0 (closed_ends (set ends (length (Ends version ends S bs)) 0) 0 (length After)) ≡ From version ends S bs =
              ap (open_from 0) (ends_cleared ends 0 (length S) (length After) (long_after ends)) in
              omega (arith, at, near, size_after)
