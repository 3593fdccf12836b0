-- What a Bound says of a session; a session is there or is opened; each way through Bind is the definition's. Assumes nothing.
use mathlib.Core.Path.{◌≡◌, refl, sym, ap, subst, ◌∙◌}
use mathlib.Core.Bool.{Bool, true, false, cond, not, ◌&&◌, ◌||◌}
use mathlib.Core.List.{List, [], ◌∷◌, ◌++◌, map}
use mathlib.Core.Option
use mathlib.Core.Option.{Option, none, some}
use Prim.Native.Nat.{ℕ, ◌+◌, ◌<◌, ◌≤◌}
use native.Mathlib.Omega.{arith}
use lib.ListN.{length, get_or, set, take, drop, get_elem?, length-set}
use lib.Seq.{take-take, drop-set-lt, get_or-set_same, get_or-set_other}
use lib.Dec.{ltb}
use borrow.Author.Tests.{lt-ltb, le-ltb, ltb-true}
use Rattle.std.specs.Prelude.{Option as RustOption, Some, None, is_some, unwrap_or}
use Rattle.model_frame.specs.Frame.{Key, bound, nack, stale_epoch, lag_too_great}
use Rattle.model_text.specs.Version.{latest}
use Rattle.frame_stamp.specs.Versions.{version_of}
use Rattle.model_session.specs.Session.{Session, suits}
use Rattle.model_session.specs.Summary.{summary}
use Rattle.model_session.proofs.Basics.{some_inj}
use Rattle.model_standby.specs.Store.{Place, place_of, is_stored, session_at, or_new, new_place, opened}
use Rattle.model_standby.specs.Answer.{reply, accepted}
use Rattle.model_standby.specs.State.{new_bound}
use Rattle.model_standby.specs.Core.{Core, CoreResult, leave, rebind, core_says, core_refuse, core_bind}
use Rattle.standby_segments.specs.Segments.{held_in}
use Rattle.standby_segments.proofs.Meaning.{none_held}
use Rattle.standby_handles.specs.Rows.{area_at}
use Rattle.store_areas.specs.declared.Shape.{Shape}
use Rattle.store_areas.specs.Areas.{place_words, words_at, Rules, place_at, places_of}
use Rattle.store_areas.proofs.Lists.{word_kept}
use Rattle.store_areas.proofs.Lifting.{places_length, place_is, session_is}
use Rattle.store_sessions.specs.Answers.{stored_place, Opened}
use Rattle.store_sessions.proofs.Seeking.{is_found, stored_at, not_stored, new_at}
use Rattle.store_sessions.proofs.Opening.{opened_rules}
use Rattle.model_frame.specs.Sizes.{sizes}
use Rattle.standby_pending.specs.Pending.{count_of, commit_of, pending_of}
use Rattle.standby_commit.specs.Settling.{stays, opens, opened_words, Touched, StoreAfter}
use Rattle.standby_commit.proofs.Header.{pending_kept}
use Rattle.standby_row.specs.declared.Bound.{Bound}
use Rattle.standby_row.specs.declared.lookup.Lookup.{Lookup}
use Rattle.standby_row.specs.Row.{rival_of}
use Rattle.standby_part.specs.State.{core_at}
use Rattle.standby_counters.specs.declared.Replica.{Replica}
use Rattle.standby_state.specs.declared.Settings.{Settings}
use Rattle.standby_state.specs.declared.BoundSummary.{BoundSummary}
use Rattle.standby_state.specs.declared.Answer.{Answer}
use Rattle.standby_state.specs.declared.Outcome.{Outcome}
use Rattle.standby_state.specs.Answers.{answer_of, brief_of, is_refused, is_nack, is_bound}
use Rattle.standby_state.specs.Exact.{Exact, ExactSummary}
use Rattle.standby_state.proofs.Exact.{exact_refused, exact_nack, exact_bound}
use Rattle.standby_state.specs.Outcomes.{counters_of, settings_of, room_for, spot_of, leaving, rebinding}
use Rattle.standby_bind.specs.Binding.{new_handle, BindOpens, BindIs}

-- ---- opening

at_end : {A : Type 0} (l : List A) (x : A) → get_elem? (l ++ (x ∷ [])) (length l) ≡ some x
at_end [] x = refl
at_end (y ∷ l) x = at_end l x

past_end : {A : Type 0} (l : List A) → get_elem? l (length l) ≡ none
past_end [] = refl
past_end (y ∷ l) = past_end l

module _ (s : Shape) (k : Key) (w b : List ℕ) (r : Rules s w b) where
  abbrev ps : List Place
  ps = places_of s w b

  abbrev n : ℕ
  n = get_or w 0 0

  count : length ps ≡ n
  count = places_length s w b

  pub was_there : {place : ℕ} → Some place ≡ stored_place k ps → BindOpens s k w w b b
  was_there is =
      let stored : is_stored k ps ≡ true = (stored_at k ps is).0 in
      let less : place_of k ps < n = omega (arith, count, ltb-true (place_of k ps) (length ps) stored) in
      record {
        places = sym (ap (λ (t : Bool). cond t ps (ps ++ (new_place k ∷ []))) stored);
        pending = refl;
        rules = r;
        more = omega arith;
        there = less;
        session = sym (ap or_new (session_is s w b (place_of k ps) less));
        store_after = subst (λ (t : Bool). StoreAfter s (cond (not t) (opens (place_of k ps)) stays) w w b b) (sym stored) (refl, refl);
      }

  pub newly_at : None ≡ stored_place k ps → n ≡ place_of k ps
  newly_at is = sym (new_at k ps (not_stored k ps is) ∙ count)

  pub newly_there : {w' b' : List ℕ} {x : Key} → None ≡ stored_place k ps → x ≡ k → n < s.places → Opened s x w w' b b' → BindOpens s k w w' b b'
  unfolding pending_of
  newly_there {w'} {b'} is same few op =
      let o : Opened s k w w' b b' = subst (λ (y : Key). Opened s y w w' b b') same op in
      let v : List ℕ = set w 0 (n + 1) in
      let new : is_stored k ps ≡ false = not_stored k ps is in
      let last : place_of k ps ≡ length ps = new_at k ps new in
      let at : place_of k ps ≡ n = last ∙ count in
      let long : 66 ≤ length w = omega (arith, r.room.words_long) in
      let size : length v ≡ length w = length-set w 0 (n + 1) in
      let more : get_or w' 0 0 ≡ n + 1 = word_kept (words_at s n) (words_at s n + place_words s) 0 v w' o.words (omega arith) ∙ get_or-set_same w 0 (n + 1) 0 (omega arith) in
      let head : take 66 w' ≡ take 66 v = sym (take-take 66 (words_at s n) w' (omega arith)) ∙ ap (take 66) o.words.front ∙ take-take 66 (words_at s n) v (omega arith) in
      let commits : count_of v ≡ count_of w = get_or-set_other w 0 1 (n + 1) 0 (λ e. omega arith) in
      let rest : drop 2 v ≡ drop 2 w = drop-set-lt 2 w 0 (n + 1) (omega arith) in
      let pends : pending_of v ≡ pending_of w = λ j. map commit_of (take (commits j) (rest j)) in
      let inside : place_of k ps < get_or w' 0 0 = omega (arith, more, at) in
      let own : place_at s w' b' (place_of k ps) ≡ new_place k =
      some_inj (sym (place_is s w' b' (place_of k ps) inside) ∙ (λ j. get_elem? (o.places j) (last j)) ∙ at_end ps (new_place k)) in
      let none_there : get_elem? ps (place_of k ps) ≡ none = ap (get_elem? ps) last ∙ past_end ps in
      record {
        places = o.places ∙ sym (ap (λ (t : Bool). cond t ps (ps ++ (new_place k ∷ []))) new);
        pending = pending_kept v w' (omega (arith, long, size)) (omega (arith, commits, r.pending)) head ∙ pends;
        rules = opened_rules s k w w' b b' r few o;
        more = omega (arith, more);
        there = inside;
        session = ap (λ (x : Place). x.stored.session) own ∙ sym (ap (λ (x : Option Place). or_new (Option.map (λ (y : Place). y.stored.session) x)) none_there);
        store_after =
            subst (λ (t : Bool). StoreAfter s (cond (not t) (opens (place_of k ps)) stays) w w' b b') (sym new)
            (subst (λ (i : ℕ). Touched s i (opened_words w) w' b b') (sym at) (record { words = o.words; bytes = o.bytes }));
      }

-- ---- whether the version takes the session's stamp

module _ (s : Shape) (k : Key) (w b : List ℕ) (version : ℕ) where
  abbrev Of : Bool
  Of = suits version (or_new (session_at (places_of s w b) (place_of k (places_of s w b)))).stamp

  pub found_less : {place : ℕ} → Some place ≡ stored_place k (places_of s w b) → place < get_or w 0 0
  found_less is = let q = stored_at k (places_of s w b) is in omega (arith, q.1, places_length s w b, ltb-true (place_of k (places_of s w b)) (length (places_of s w b)) q.0)

  pub found_suits : {place : ℕ} {t : Bool} → Some place ≡ stored_place k (places_of s w b) → t ≡ suits version (place_at s w b place).stored.session.stamp → t ≡ Of
  found_suits {place} is e =
      e ∙ ap (λ (o : Session). suits version o.stamp) (sym (ap or_new (session_is s w b place (found_less is))) ∙ ap (λ (i : ℕ). or_new (session_at (places_of s w b) i)) (stored_at k (places_of s w b) is).1)

  pub new_suits : None ≡ stored_place k (places_of s w b) → true ≡ Of
  new_suits is = ap (λ (o : Option Place). suits version (or_new (Option.map (λ (y : Place). y.stored.session) o)).stamp) (sym (past_end (places_of s w b)) ∙ ap (get_elem? (places_of s w b)) (sym (new_at k (places_of s w b) (not_stored k (places_of s w b) is))))

-- ---- each way through

module _ (s : Settings) (c : Replica) (seen : Lookup) (row : List Bound) (h e lag : ℕ) (k : Key) (w b : List ℕ) (r : Rules s.shape w b) where
  abbrev places : List Place
  places = places_of s.shape w b

  abbrev At : Core
  At = core_at (counters_of c) s.shape w b

  abbrev Bind : ℕ → CoreResult
  Bind room = core_bind (settings_of s room) At (λ p. room_for seen (rival_of row h p)) h e lag k

  -- whether the row has room for the handle, once no other handle has the key's place
  abbrev Room : Bool
  Room = room_for seen (rival_of row h (place_of k places))

  abbrev Stored : CoreResult
  Stored = core_says (record { counters = counters_of c; places = opened k places; pending = pending_of w }) (rebind h (new_bound (place_of k places))) (bound h (summary (or_new (session_at places (place_of k places))) lag))

  -- whether the version takes the session's stamp
  abbrev Suits : Bool
  Suits = suits (version_of c.version2) (or_new (session_at places (place_of k places))).stamp

  -- the five tests: a lower epoch, too great a lag, the stamp, a session place, a place in the row
  abbrev Tests : Bool → Bool → Bool → Bool → Bool → CoreResult
  Tests t u y v x = cond t (core_says At leave (nack h stale_epoch)) (cond u (core_says At leave (nack h lag_too_great)) (cond (not y) (core_refuse At leave 32) (cond (not v) (core_refuse At leave 20) (cond (not x) (core_refuse At leave 21) Stored))))

  tests : (room : ℕ) → Bind room ≡ Tests (ltb e c.epoch.0) (ltb s.max_lag lag) Suits (is_stored k places || ltb (length places) s.shape.places) Room
  unfolding core_bind
  tests room = refl

  as_left : {o : Outcome} {a x : Answer} → o ≡ leaving c a → a ≡ x → accepted (answer_of b x) ≡ false → Exact b x → ((room : ℕ) → record { core = At; action = leave; answer = answer_of b x } ≡ Bind room) → BindIs s c seen row h e lag k w w b b o
  as_left {x = x} e₁ e₂ off is-exact is = subst (BindIs s c seen row h e lag k w w b b) (sym (e₁ ∙ ap (leaving c) e₂)) (record {
    is = λ version room holds. is room.bytes;
    lands = λ room area. tt;
    rules = r;
    more = omega arith;
    store_after = subst (λ (t : Bool). StoreAfter s.shape (cond (t && not (is_stored k places)) (opens (place_of k places)) stays) w w b b) (sym off) (refl, refl);
    exact = is-exact;
  })

  pub stale : {o : Outcome} {a : Answer} → e < c.epoch.0 → o ≡ leaving c a → a ≡ is_nack h 1 → BindIs s c seen row h e lag k w w b b o
  stale less e₁ e₂ =
      as_left e₁ e₂ refl (exact_nack b h stale_epoch) (λ room. sym (tests room ∙ ap (λ (t : Bool). Tests t (ltb s.max_lag lag) Suits (is_stored k places || ltb (length places) s.shape.places) Room) (lt-ltb e c.epoch.0 less)))

  -- of an epoch that is not lower
  module _ (high : c.epoch.0 ≤ e) where
    first : (room : ℕ) → Bind room ≡ Tests false (ltb s.max_lag lag) Suits (is_stored k places || ltb (length places) s.shape.places) Room
    first room = tests room ∙ ap (λ (t : Bool). Tests t (ltb s.max_lag lag) Suits (is_stored k places || ltb (length places) s.shape.places) Room) (le-ltb e c.epoch.0 high)

    pub lagging : {o : Outcome} {a : Answer} → s.max_lag < lag → o ≡ leaving c a → a ≡ is_nack h 3 → BindIs s c seen row h e lag k w w b b o
    lagging great e₁ e₂ =
        as_left e₁ e₂ refl (exact_nack b h lag_too_great) (λ room. sym (first room ∙ ap (λ (t : Bool). Tests false t Suits (is_stored k places || ltb (length places) s.shape.places) Room) (lt-ltb s.max_lag lag great)))

    -- and of a lag that is not too great, with what was found of the places
    module _ (small : lag ≤ s.max_lag) {seen_at : RustOption ℕ} (at : seen_at ≡ stored_place k places) {suit : Bool} (suit_is : suit ≡ Suits) where
      pub long_stamp : {o : Outcome} → suit ≡ false → o ≡ leaving c (is_refused 32) → BindIs s c seen row h e lag k w w b b o
      long_stamp off e =
          as_left e refl refl (exact_refused b 32)
          (λ room. sym (first room ∙ (λ j. Tests false (le-ltb s.max_lag lag small j) ((sym suit_is ∙ off) j) (is_stored k places || ltb (length places) s.shape.places) Room)))

      module _ (taken : suit ≡ true) {has : Bool} (found : has ≡ (is_some seen_at || ltb (get_or w 0 0) s.shape.places)) where
        same : has ≡ (is_stored k places || ltb (length places) s.shape.places)
        same =
            let count : get_or w 0 0 ≡ length places = sym (places_length s.shape w b) in
            found ∙ (λ j. is_found k places refl at j || ltb (count j) s.shape.places)

        second : (room : ℕ) → Bind room ≡ Tests false false true has Room
        second room =
            first room
            ∙ (λ j. Tests false (le-ltb s.max_lag lag small j) ((sym suit_is ∙ taken) j) (sym same j) Room)

        pub all_places : {o : Outcome} → has ≡ false → o ≡ leaving c (is_refused 20) → BindIs s c seen row h e lag k w w b b o
        all_places full e = as_left e refl refl (exact_refused b 20) (λ room. sym (second room ∙ ap (λ (t : Bool). Tests false false true t Room) full))

        -- and with a session place
        module _ (some-place : has ≡ true) {freed : RustOption ℕ} (freed_is : freed ≡ rival_of row h (unwrap_or seen_at (get_or w 0 0))) {free : Bool} (fits : free ≡ room_for seen freed) where
          -- the place that the session has, or will have
          asked : (o : RustOption ℕ) → o ≡ stored_place k places → unwrap_or o (get_or w 0 0) ≡ place_of k places
          asked (Some i) e = (stored_at k places e).1
          asked None e = newly_at s.shape k w b r e

          rival_is : freed ≡ rival_of row h (place_of k places)
          rival_is = freed_is ∙ ap (rival_of row h) (asked seen_at at)

          third : (room : ℕ) → Bind room ≡ Tests false false true true free
          third room = second room ∙ (λ j. Tests false false true (some-place j) (sym (fits ∙ ap (room_for seen) rival_is) j))

          pub all_handles : {o : Outcome} → free ≡ false → o ≡ leaving c (is_refused 21) → BindIs s c seen row h e lag k w w b b o
          all_handles full e = as_left e refl refl (exact_refused b 21) (λ room. sym (third room ∙ ap (Tests false false true true) full))

          pub binds : {place : ℕ} {w' b' : List ℕ} {o : Outcome} {a : Answer} {m : BoundSummary} {g : Bound} → free ≡ true → place ≡ place_of k places → BindOpens s.shape k w w' b b'
              → ExactSummary b' m → brief_of b' m ≡ summary (place_at s.shape w' b' place).stored.session lag → a ≡ is_bound h m → g ≡ new_handle h place → o ≡ rebinding c seen freed a g → BindIs s c seen row h e lag k w w' b b' o
          binds {place} {w'} {b'} {m = m} has_room at op is-exact brief e₁ e₂ e₃ =
              subst (BindIs s c seen row h e lag k w w' b b') (sym (e₃ ∙ (λ j. rebinding c seen freed (e₁ j) (e₂ j)))) (record {
                is = λ version room holds.
                    let held : held_in version (area_at room (spot_of seen freed) holds) 0 ≡ [] = none_held version (area_at room (spot_of seen freed) holds).ends in
                    let says : brief_of b' m ≡ summary (or_new (session_at places (place_of k places))) lag =
                    brief ∙ ap (λ (i : ℕ). summary (place_at s.shape w' b' i).stored.session lag) at ∙ ap (λ (x : Session). summary x lag) op.session in
                    (λ j. record {
                      core = record { counters = counters_of c; places = op.places j; pending = op.pending j };
                      action = rebind h (record { place = at j; number = 0; held = held j; bytes = 0 });
                      answer = reply (bound h (says j));
                    })
                    ∙ sym (third room.bytes ∙ ap (Tests false false true true) has_room);
                lands = λ room area. record {
                  freed_is = rival_is ∙ ap (rival_of row h) (sym at);
                  at_is = refl;
                  slot_is = λ y. (λ j. record { used = 1; handle = h; place = place; commit_no = record { 0 = 0 }; held_len = sym (ap sizes (none_held latest y.ends)) j; held_bytes = 0 });
                  slot_place = subst (λ (i : ℕ). i < get_or w' 0 0) (sym at) op.there;
                  holds_none = refl;
                };
                rules = op.rules;
                more = op.more;
                store_after = op.store_after;
                exact = exact_bound b' h m is-exact;
              })

  -- of the store as it was handed back
  pub binds_in : {w₁ b₁ w' b' : List ℕ} {o : Outcome} → BindIs s c seen row h e lag k w w₁ b b₁ o → w' ≡ w₁ → b' ≡ b₁ → BindIs s c seen row h e lag k w w' b b' o
  binds_in {w₁} {b₁} {w'} {b'} {o} is words bytes = subst (λ (x : List ℕ). BindIs s c seen row h e lag k w x b b' o) (sym words) (subst (λ (x : List ℕ). BindIs s c seen row h e lag k w w₁ b x o) (sym bytes) is)
