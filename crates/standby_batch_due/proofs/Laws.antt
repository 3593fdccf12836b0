-- From what a Batch does over its own hold area to what it does over all. Assumes nothing.
use Prim.Native.Nat.{ℕ, ◌+◌, ◌-◌, ◌*◌, ◌<◌, ◌≤◌}
use mathlib.Core.Path.{◌≡◌, refl, sym, ap, subst, ◌∙◌}
use mathlib.Core.Bool.{Bool, true, false, cond, not, ◌&&◌, ◌||◌, true≢false}
use mathlib.Core.List.{List, [], ◌++◌}
use mathlib.Core.Option.{Option, none, some}
use native.Mathlib.Omega.{arith}
use lib.ListN.{get_or, length, set}
use lib.Dec.{eqb, ltb, leb}
use borrow.Author.Tests.{eq-eqb, ltb-false, leb-false}
use borrow.Rule.Slice.PartMut.{mid_of, put_mid, put_same}
use Rattle.base_laws.proofs.Lists.{both}
use Rattle.model_frame.specs.Bytes.{write}
use Rattle.model_frame.specs.Frame.{Change, AppRecord, commit, whole, last_whole, batch}
use Rattle.model_frame.specs.Frame as the_frame
use Rattle.model_frame.specs.Parse.{is_empty}
use Rattle.model_frame.specs.Sizes.{sizes}
use Rattle.model_frame.proofs.Sizes.{changes_size}
use Rattle.model_frame.proofs.Runs.{sizes_append}
use Rattle.std.specs.Prelude.{Some, None}
use Rattle.std.specs.Prelude as prelude
use Rattle.standby_segments.specs.Segments.{Holds, hold_areas, Lengths, closed_ends, open_from, end_for}
use Rattle.standby_handles.specs.Rows.{area_at}
use Rattle.standby_row.specs.declared.Bound.{Bound as BoundRecord}
use Rattle.standby_row.specs.declared.lookup.Found.{Found}
use Rattle.standby_row.specs.declared.lookup.Lookup.{Lookup}
use Rattle.standby_row.specs.Row.{at_or, record_or_free, own_place, own_record}
use Rattle.store_areas.specs.Areas.{Rules}
use Rattle.store_areas.proofs.Lifting.{part_lent, part_length, part_own}
use Rattle.standby_pending.specs.Pending.{count_of, pending_of}
use Rattle.standby_pending_run.specs.Commits.{ran_words, RanIf}
use Rattle.standby_pending_run.proofs.Due.{many_pending}
use Rattle.standby_commit.specs.Settling.{batch_change, StoreAfter}
use Rattle.model_text.specs.Version.{latest}
use Rattle.model_standby.specs.Answer.{accepted}
use Rattle.model_standby.specs.State.{Bound, Counters}
use Rattle.model_standby.specs.State as state
use Rattle.model_standby.specs.Standby.{follows, starts_with_reset, raised, max_whole, pends_on}
use Rattle.model_standby.specs.Hold.{HoldWrite, held_bytes, held_passes, writes_at, writes_part, writes_frame}
use Rattle.model_standby.specs.Core.{store, core_run, core_batch}
use Rattle.standby_part.specs.State.{bound_of, record_for, core_at}
use Rattle.standby_batch_handle.specs.Handling.{is_whole, found_of}
use Rattle.standby_counters.specs.declared.Replica.{Replica}
use Rattle.standby_state.specs.declared.Settings.{Settings}
use Rattle.standby_state.specs.declared.Outcome.{Outcome}
use Rattle.standby_state.specs.declared.RowAction.{RowAction}
use Rattle.standby_state.specs.Answers.{answer_of}
use Rattle.standby_state.specs.Outcomes.{counters_of, settings_of, stores, action_for, Lands}
use Rattle.standby_step.specs.Steps.{room_in, lengths_in, is_found, found_in, with_end, holds_after}
use Rattle.standby_batch.specs.Batches.{put_in, found_for, hold_area_with, found_at, Puts, BatchIs}
use Rattle.standby_batch_due.specs.DueBatch.{spot_in, due_batch, BatchIn}
use Rattle.standby_batch_due.proofs.Areas.{within, write_part, set_part}

-- ---- what is done to the row fits it

pub puts_lands : (seen : Lookup) (row : List BoundRecord) (used room : ℕ) (area : Holds) (a : RowAction) → Puts seen used room area a → Lands seen row used room area a
puts_lands seen row used room area RowAction.Leave p = tt
puts_lands seen row used room area RowAction.Clear p = absurd p
puts_lands seen row used room area (RowAction.Store at x) p = p
puts_lands seen row used room area (RowAction.Rebind freed at x) p = absurd p

-- ---- what is written fits the area

abbrev Inside : ℕ → Option HoldWrite → Type 0
Inside room none = Unit {0}
Inside room (some x) = x.offset + length x.bytes ≤ room

inside_cond : (room : ℕ) (t : Bool) (x : HoldWrite) → (t ≡ true → x.offset + length x.bytes ≤ room) → Inside room (cond t (some x) none)
inside_cond room true x f = f refl
inside_cond room false x f = tt

module _ (L : state.Settings) (h n : ℕ) (cs : List Change) where
  at_inside : (o : Option Bound) → Inside L.room (writes_at L h o n cs)
  at_inside none = tt
  at_inside (some b) = inside_cond L.room (held_passes L b n cs) (record { handle = h; offset = sizes b.held; bytes = held_bytes cs }) fits
    where
      fits : held_passes L b n cs ≡ true → sizes b.held + length (held_bytes cs) ≤ L.room
      fits e =
          let p = (both (follows b n) _ e).1 in
          let q = (both (not (is_empty b.held && not (starts_with_reset cs))) _ p).1 in
          let r = (both (not (ltb max_whole (raised b cs))) _ q).1 in
          let most : sizes (b.held ++ cs) ≤ L.room = ltb-false L.room (sizes (b.held ++ cs)) (off (ltb L.room (sizes (b.held ++ cs))) r) in
          omega (arith, most, sizes_append b.held cs, changes_size cs)
        where
          off : (t : Bool) → not t ≡ true → t ≡ false
          off true e = absurd (true≢false (sym e))
          off false e = refl

  part_inside : (o : Option Bound) (p : the_frame.Part) → Inside L.room (writes_part L h o n p cs)
  part_inside o commit = tt
  part_inside o whole = at_inside o
  part_inside o last_whole = at_inside o

  frame_inside : (c : Counters) (o : Option Bound) (e : ℕ) (p : the_frame.Part) (apps : List AppRecord) → Inside L.room (writes_frame L c o (batch h e n p cs apps))
  frame_inside c o e p apps = go (not (is_empty apps) || ltb e c.epoch)
    where
      go : (t : Bool) → Inside L.room (cond t none (writes_part L h o n p cs))
      go true = tt
      go false = part_inside o p

  none_part : (p : the_frame.Part) → writes_part L h none n p cs ≡ none
  none_part commit = refl
  none_part whole = refl
  none_part last_whole = refl

  none_frame : (c : Counters) (e : ℕ) (p : the_frame.Part) (apps : List AppRecord) → writes_frame L c none (batch h e n p cs apps) ≡ none
  none_frame c e p apps = go (not (is_empty apps) || ltb e c.epoch)
    where
      go : (t : Bool) → cond t none (writes_part L h none n p cs) ≡ none
      go true = refl
      go false = none_part p

-- ---- the record found

module _ (seen : Lookup) (h : ℕ) (l : Holds) where
  same_found : (is_found seen ≡ true → (own_record seen).handle ≡ h) → found_for seen h ≡ is_found seen
  same_found own = go (is_found seen) refl own
    where
      go : (t : Bool) → is_found seen ≡ t → (t ≡ true → (own_record seen).handle ≡ h) → (t && eqb (own_record seen).handle h) ≡ t
      go true f own = eq-eqb (own_record seen).handle h (own refl)
      go false f own = refl

  found_is : (is_found seen ≡ true → (own_record seen).handle ≡ h) → found_at seen h (area_at (lengths_in seen l) (spot_in seen) l) ≡ found_in seen l
  found_is own =
      ap (λ (t : Bool). found_of latest t (own_record seen) (area_at (lengths_in seen l) (spot_in seen) l)) (same_found own) ∙ go seen.own
    where
      go : (o : prelude.Option Found) → found_of latest (prelude.is_some o) (record_or_free o) (area_at (lengths_in seen l) (at_or o 0) l) ≡ found_of latest (prelude.is_some o) (record_or_free o) (area_at (lengths_in seen l) (at_or o seen.len) l)
      go (Some f) = refl
      go None = refl

module _ (s : Settings) (c : Replica) (seen : Lookup) (h e n : ℕ) (part : the_frame.Part) (cs : List Change) (apps : List AppRecord) (w b : List ℕ) (l : Holds) {due : Bool} (due_is : due ≡ due_batch h w) {w1 : List ℕ} (ran : RanIf due s.shape b w w1) where
  abbrev E : Lengths
  E = lengths_in seen l

  abbrev R : ℕ
  R = room_in seen l.bytes

  abbrev A : ℕ
  A = spot_in seen * R

  abbrev N : ℕ
  N = room_in seen l.ends

  abbrev F : ℕ
  F = spot_in seen * N

  abbrev P : Holds
  P = area_at E (spot_in seen) l

  -- what is lent of the hold areas, and what they are with another part
  abbrev Lent : ℕ → ℕ → ℕ → ℕ → Holds
  Lent lo hi first last = hold_areas (mid_of lo (hi - lo) l.bytes) (mid_of first (last - first) l.ends)

  abbrev With : ℕ → ℕ → ℕ → ℕ → Holds → Holds
  With lo hi first last area = hold_areas (put_mid lo (hi - lo) l.bytes area.bytes) (put_mid first (last - first) l.ends area.ends)

  ran_is : core_at (counters_of c) s.shape w1 b ≡ core_run (due_batch h w) (core_at (counters_of c) s.shape w b)
  ran_is = (λ j. record { counters = counters_of c; places = ran.places j; pending = ran.pending j }) ∙ ap (λ (t : Bool). core_run t (core_at (counters_of c) s.shape w b)) due_is

  words_are : w1 ≡ cond (due_batch h w) (ran_words s.shape w) w
  words_are = ran.words ∙ ap (λ (t : Bool). cond t (ran_words s.shape w) w) due_is

  module _ {w' b' : List ℕ} {area' : Holds} {r : Outcome} (size : length area'.bytes ≡ length (mid_of A (A + R - A) l.bytes)) (long_ends : length area'.ends ≡ length (mid_of F (F + N - F) l.ends))
      (g : BatchIs s c seen h e n part cs apps w1 w' b b' P area' r) where
    abbrev l' : Holds
    l' = With A (A + R) F (F + N) area'

    in_bytes : A + R ≤ length l.bytes
    in_bytes = within seen (length l.bytes)

    in_ends : F + N ≤ length l.ends
    in_ends = within seen (length l.ends)

    long : length P.bytes ≡ R
    long = ap length (sym (part_lent A R l.bytes area'.bytes in_bytes size)) ∙ part_length A R l.bytes area'.bytes in_bytes size

    at_found : found_for seen h ≡ true → own_place seen ≡ spot_in seen
    at_found f = go seen.own refl
      where
        go : (o : prelude.Option Found) → seen.own ≡ o → at_or o seen.len ≡ at_or o 0
        go (Some g) q = refl
        go None q = absurd (true≢false (sym (both (is_found seen) _ f).0 ∙ ap prelude.is_some q))

    -- what is put is put at the lent area's place
    own_area : (at : ℕ) → at ≡ spot_in seen → area_at E at l' ≡ area'
    own_area at e = ap (λ (k : ℕ). area_at E k l') e ∙ (λ j. record { bytes = part_own A R l.bytes area'.bytes in_bytes size j; ends = part_own F N l.ends area'.ends in_ends long_ends j })

    action_is : (a : RowAction) → Puts seen (get_or w' 0 0) (length P.bytes) area' a → (stores a ≡ true → found_for seen h ≡ true) → action_for latest E l' a ≡ put_in area' a
    action_is RowAction.Leave n f = refl
    action_is RowAction.Clear n f = absurd n
    action_is (RowAction.Rebind freed at x) n f = absurd n
    action_is (RowAction.Store at x) n f = ap (λ (y : Holds). store x.handle (bound_of latest x y)) (own_area at (n.at_is ∙ at_found (f refl)))

    puts_in : (a : RowAction) → Puts seen (get_or w' 0 0) (length P.bytes) area' a → (stores a ≡ true → found_for seen h ≡ true) → Puts seen (get_or w' 0 0) R (area_at E (own_place seen) l') a
    puts_in RowAction.Leave n f = tt
    puts_in RowAction.Clear n f = n
    puts_in (RowAction.Rebind freed at x) n f = n
    puts_in (RowAction.Store at x) n f = record {
      at_is = n.at_is;
      slot_is = n.slot_is ∙ ap (λ (y : Holds). record_for x.handle (bound_of latest x y)) (sym (own_area (own_place seen) (at_found (f refl))));
      slot_place = n.slot_place;
      slot_len = subst (λ (k : ℕ). x.held_len ≤ k) long n.slot_len;
    }

    abbrev O : ℕ → Option Bound → Option HoldWrite
    O room o = writes_frame (settings_of s room) (counters_of c) o (batch h e n part cs apps)

    bytes_same : area'.bytes ≡ P.bytes → put_mid A (A + R - A) l.bytes area'.bytes ≡ l.bytes
    bytes_same is = ap (put_mid A (A + R - A) l.bytes) (is ∙ sym (part_lent A R l.bytes area'.bytes in_bytes size)) ∙ put_same A (A + R - A) l.bytes

    ends_same : area'.ends ≡ P.ends → put_mid F (F + N - F) l.ends area'.ends ≡ l.ends
    ends_same is = ap (put_mid F (F + N - F) l.ends) (is ∙ sym (part_lent F N l.ends area'.ends in_ends long_ends)) ∙ put_same F (F + N - F) l.ends

    bytes_wrote : (x : HoldWrite) → x.offset + length x.bytes ≤ R → area'.bytes ≡ write P.bytes x.offset x.bytes → put_mid A (A + R - A) l.bytes area'.bytes ≡ write l.bytes (A + x.offset) x.bytes
    bytes_wrote x q is =
        let mid : mid_of A (A + R - A) l.bytes ≡ P.bytes = part_lent A R l.bytes area'.bytes in_bytes size in
        let low : A ≤ length l.bytes = omega (arith, in_bytes) in
        ap (put_mid A (A + R - A) l.bytes) (is ∙ ap (λ (m : List ℕ). write m x.offset x.bytes) (sym mid))
        ∙ write_part A (A + R - A) x.offset l.bytes x.bytes low (subst (λ (k : ℕ). x.offset + length x.bytes ≤ k) (sym (part_length A R l.bytes area'.bytes in_bytes size)) q)

    ends_wrote : (closed : List ℕ) (len : ℕ) → area'.ends ≡ set P.ends (length closed) (end_for (open_from 0 closed) len) → put_mid F (F + N - F) l.ends area'.ends ≡ with_end N (spot_in seen) closed len l.ends
    ends_wrote closed len is =
        let mid : mid_of F (F + N - F) l.ends ≡ P.ends = part_lent F N l.ends area'.ends in_ends long_ends in
        let low : F ≤ length l.ends = omega (arith, in_ends) in
        ap (put_mid F (F + N - F) l.ends) (is ∙ ap (λ (m : List ℕ). set m (length closed) (end_for (open_from 0 closed) len)) (sym mid))
        ∙ set_part F (F + N - F) (length closed) (end_for (open_from 0 closed) len) l.ends low
        ∙ ap (λ (k : ℕ). cond (ltb (length closed) k) (set l.ends (F + length closed) (end_for (open_from 0 closed) len)) l.ends) (part_length F N l.ends area'.ends in_ends long_ends)

    wrote : (closes : Bool) (o : Option HoldWrite) → Inside R o → area' ≡ hold_area_with closes o P → l' ≡ holds_after E (spot_in seen) closes o l
    wrote closes none q is = λ j. record { bytes = bytes_same (ap (λ (y : Holds). y.bytes) is) j; ends = ends_same (ap (λ (y : Holds). y.ends) is) j }
    wrote true (some x) q is =
        λ j. record { bytes = bytes_wrote x q (ap (λ (y : Holds). y.bytes) is) j; ends = ends_wrote (closed_ends P.ends 0 x.offset) (x.offset + length x.bytes) (ap (λ (y : Holds). y.ends) is) j }
    wrote false (some x) q is = λ j. record { bytes = bytes_wrote x q (ap (λ (y : Holds). y.bytes) is) j; ends = ends_same (ap (λ (y : Holds). y.ends) is) j }

    at_own : l' ≡ holds_after E (spot_in seen) (is_whole part) (O R (found_in seen l)) l → l' ≡ holds_after E (own_place seen) (is_whole part) (O R (found_in seen l)) l
    at_own is = go seen.own is
      where
        go : (o : prelude.Option Found) → l' ≡ holds_after E (at_or o 0) (is_whole part) (O R (found_of latest (prelude.is_some o) (record_or_free o) (area_at E (at_or o seen.len) l))) l
            → l' ≡ holds_after E (at_or o seen.len) (is_whole part) (O R (found_of latest (prelude.is_some o) (record_or_free o) (area_at E (at_or o seen.len) l))) l
        go (Some g) p = p
        go None p =
            p ∙ ap (λ (o : Option HoldWrite). holds_after E 0 (is_whole part) o l) (none_frame (settings_of s R) h n cs (counters_of c) e part apps)
            ∙ sym (ap (λ (o : Option HoldWrite). holds_after E seen.len (is_whole part) o l) (none_frame (settings_of s R) h n cs (counters_of c) e part apps))

    pub batch_in : BatchIn s c seen h e n part cs apps w w' b b' l l' r
    batch_in = record {
      is = λ own.
          (λ j. record { core = core_at (counters_of r.replica) s.shape w' b'; action = action_is r.action g.puts g.stored j; answer = answer_of b' r.answer }) ∙ g.is
          ∙ (λ j. core_batch (settings_of s (long j)) (ran_is j) (found_is seen h l own j) h e n part cs apps);
      puts = puts_in r.action g.puts g.stored;
      rules = g.rules;
      used = g.used ∙ ran.used;
      leaves = record {
        mid = w';
        store_after = subst (λ (x : List ℕ). StoreAfter s.shape (batch_change h (own_record seen).place part (accepted (answer_of b' r.answer))) x w' b b') words_are g.store_after;
        last = refl;
      };
      holds = λ own.
          at_own (wrote (is_whole part) (O R (found_in seen l)) (frame_inside (settings_of s R) h n cs (counters_of c) (found_in seen l) e part apps)
          (g.area_is ∙ (λ j. hold_area_with (is_whole part) (O (long j) (found_is seen h l own j)) P)));
      exact = g.exact;
    }

  -- over the parts as they were lent
  abbrev Goes : List ℕ → List ℕ → Holds → Outcome → ℕ → ℕ → ℕ → ℕ → Type 0
  Goes w' b' area' r lo hi first last =
      length area'.bytes ≡ length (mid_of lo (hi - lo) l.bytes) → length area'.ends ≡ length (mid_of first (last - first) l.ends)
      → BatchIs s c seen h e n part cs apps w1 w' b b' (Lent lo hi first last) area' r
      → BatchIn s c seen h e n part cs apps w w' b b' l (With lo hi first last area') r

  goes : (w' b' : List ℕ) (area' : Holds) (r : Outcome) → Goes w' b' area' r A (A + R) F (F + N)
  goes w' b' area' r size long_ends g =
      batch_in size long_ends
      (subst (λ (x : Holds). BatchIs s c seen h e n part cs apps w1 w' b b' x area' r)
      (λ j. record { bytes = part_lent A R l.bytes area'.bytes (within seen (length l.bytes)) size j; ends = part_lent F N l.ends area'.ends (within seen (length l.ends)) long_ends j })
      g)

  pub batch_at : (w' b' : List ℕ) (area' : Holds) (r : Outcome) {lo hi first last : ℕ} → lo ≡ A → hi ≡ lo + R → first ≡ F → last ≡ first + N → Goes w' b' area' r lo hi first last
  batch_at w' b' area' r {lo} {hi} {first} {last} p q f d =
      subst (λ (x : ℕ). Goes w' b' area' r x hi first last) (sym p)
      (subst (λ (x : ℕ). Goes w' b' area' r A x first last) (sym (q ∙ ap (λ (k : ℕ). k + R) p))
      (subst (λ (x : ℕ). Goes w' b' area' r A (A + R) x last) (sym f)
      (subst (λ (x : ℕ). Goes w' b' area' r A (A + R) F x) (sym (d ∙ ap (λ (k : ℕ). k + N) f)) (goes w' b' area' r))))

-- ---- what the Batch asks

pub few_left : (s : _) (h : ℕ) (w b : List ℕ) {w1 : List ℕ} {due : Bool} → Rules s w b → due ≡ due_batch h w → RanIf due s b w w1 → count_of w1 < 64
few_left s h w b {w1} {due} r due_is ran =
    let long : 66 ≤ length w1 = omega (arith, ran.rules.room.words_long) in
    let many : length (pending_of w1) ≡ count_of w1 = many_pending w1 long ran.rules.pending in
    subst (λ (k : ℕ). k < 64) many (go due refl due_is)
  where
    less : (x y : Bool) → (x || y) ≡ false → x ≡ false
    less true y e = e
    less false y e = refl

    go : (t : Bool) → due ≡ t → due ≡ due_batch h w → length (pending_of w1) < 64
    go true d is = subst (λ (k : ℕ). k < 64) (sym (ap length (ran.pending ∙ ap (λ (t : Bool). cond t [] (pending_of w)) d))) (omega arith)
    go false d is =
        let few : length (pending_of w) < 64 = leb-false 64 (length (pending_of w)) (less (leb 64 (length (pending_of w))) (pends_on h (pending_of w)) (sym is ∙ d)) in
        subst (λ (k : ℕ). k < 64) (sym (ap length (ran.pending ∙ ap (λ (t : Bool). cond t [] (pending_of w)) d))) few
