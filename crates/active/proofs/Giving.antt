-- The frames that calls give, in order, are those that send the session whole, and then "done". Assumes nothing.
use mathlib.Core.Path.{◌≡◌, refl, sym, ap, subst, ◌∙◌}
use mathlib.Core.Bool.{Bool, true, false, cond, not}
use mathlib.Core.List.{List, [], ◌∷◌, ◌++◌, map, append-nil}
use mathlib.Core.Option.{Option, none, some}
use Prim.Native.Nat.{ℕ, zero, suc, ◌+◌, ◌*◌, ◌^◌, ◌≤◌, ◌<◌}
use native.Mathlib.Omega.{arith}
use lib.ListN.{length, take, drop}
use lib.Seq.{take_at}
use lib.Dec.{ltb}
use borrow.Author.Tests.{lt-leb, ltb-false, ltb-true}
use Rattle.model_text.specs.Version.{is_version}
use Rattle.model_frame.specs.Bytes.{write}
use Rattle.model_frame.specs.Frame.{Frame, Change, batch, whole, last_whole}
use Rattle.model_frame.specs.Parse.{Each}
use Rattle.model_frame.specs.Writing.{encode}
use Rattle.model_frame.specs.Sizes.{sizes}
use Rattle.model_frame.proofs.Sizes.{encode_size}
use Rattle.model_session.specs.Session.{Session, top, suits, Holdable}
use Rattle.model_session.specs.Sender.{Sender, new_sender, sent_from, send_next, Sends, all_sent, is_next, cannot_send}
use Rattle.model_session.specs.Whole.{whole_batches, whole_frames, frames_of, longest_like, hold_length}
use Rattle.model_session.proofs.Basics.{none≢some, some_inj, each_right, each_map}
use Rattle.model_session.proofs.Sender.{sends_whole}
use Rattle.model_session.proofs.Sending.{batch_sizes}
use Rattle.base_laws.proofs.Little.{write_is}
use Rattle.store_log.proofs.Lawful.{Small}
use Rattle.store_areas.specs.declared.Shape.{Shape}
use Rattle.active.specs.declared.Sending.{Sending}
use Rattle.base_refusals.specs.declared.Refusal.{Refusal}
use Rattle.std.specs.Prelude.{None, Some, Ok, Err}
use Rattle.active.specs.Whole.{SendAnswer, start_of, step_of, SentWhole, sender_of, stored_at, SendStart, ready, start_from, SendStep, gives, finished, spent, unsuited, turned_down, send_answer, unless_refused, filled_by, filled_unless, step_from, area_from, SendsWhole, SendCalls, nothing, too_short, frame, Sofar}
use Rattle.active.specs.Whole as call
use Rattle.active.proofs.Storing.{stored_holdable}

-- ---- one call that gives a frame

record Gave (x : Option (Frame × Sender)) (out' : List ℕ) (i version len j spoken : ℕ) (u : Sender) : Type 0 where
  which : Frame
  is : x ≡ some (which, u)
  same : j ≡ i
  same_version : spoken ≡ version
  bytes : take len out' ≡ encode which

front : (out bs : List ℕ) → length bs ≤ length out → take (length bs) (write out 0 bs) ≡ bs
front out bs h =
    let k : 0 + length bs ≤ length out = omega arith in
    rw (write_is out 0 bs k) (take_at bs (drop (0 + length bs) out) (length bs) refl)

gave : (why : Option ℕ) (x : Option (Frame × Sender)) (out out' : List ℕ) (i version len j spoken : ℕ) (u : Sender) → gives len j spoken u ≡ unless_refused why (send_answer (length out) i version x)
    → out' ≡ filled_unless why x out → Gave x out' i version len j spoken u
gave (some n) x out out' i version len j spoken u e a = absurd (let z : ◌≡◌ {A = ℕ} 0 1 = cc in omega arith)
gave none none out out' i version len j spoken u e a = absurd (let z : ◌≡◌ {A = ℕ} 0 1 = cc in omega arith)
gave none (some (f, v)) out out' i version len j spoken u e a = go (ltb (length out) (length (encode f))) refl e a
  where
    go : (b : Bool) → ltb (length out) (length (encode f)) ≡ b → gives len j spoken u ≡ cond b (call.SendStep.refused 9) (gives (length (encode f)) i version v) → out' ≡ cond b out (write out 0 (encode f))
        → Gave (some (f, v)) out' i version len j spoken u
    go true k e a = absurd (let z : ◌≡◌ {A = ℕ} 0 1 = cc in omega arith)
    go false k e a =
        let el : len ≡ length (encode f) = cc in
        let ev : v ≡ u = cc in
        let ej : j ≡ i = cc in
        let es : spoken ≡ version = cc in
        record {
          which = f;
          is = ap (λ (y : Sender). some (f, y)) ev;
          same = ej;
          same_version = es;
          bytes = rw (el, a) (front out (encode f) (ltb-false (length out) (length (encode f)) k));
        }

-- ---- calls, one after the other

module _ (limit : ℕ) (shape : Shape) (w b : List ℕ) (a : Session) where
  -- a sender's number after a frame
  number_from : (s t : Sender) (f : Frame) (o : Option ℕ) → sent_from limit a s o ≡ some (f, t) → t.last ≡ suc s.last
  number_from s t f none e = absurd (none≢some e)
  number_from s t f (some n) e = sym (ap (λ (p : Frame × Sender). p.1.last) (some_inj e))

  number_next : (s t : Sender) (f : Frame) → send_next limit a s ≡ some (f, t) → t.last ≡ suc s.last
  unfolding send_next
  number_next s t f e = number_from s t f s.from e

  -- the call's own words: what it gives is the sender's next
  call_gave : (s s' : Sending) (out out' : List ℕ) (len : ℕ) → stored_at shape w b s.place ≡ some a → SendsWhole limit shape w b s out out' (Ok (Some (record { len = len; next = s' })))
      → Gave (send_next limit a (sender_of s)) out' s.place s.version len s'.place s'.version (sender_of s')
  unfolding step_from area_from
  call_gave s s' out out' len k p = gave (turned_down s.version a (sender_of s)) (send_next limit a (sender_of s)) out out' s.place s.version len s'.place s'.version (sender_of s') (rw k at p.answer) (rw k at p.area)

  pub record Reached (frames : List Frame) (fs : List (List ℕ)) (i version n : ℕ) (t : Sending) : Type 0 where
    pub so : Sofar frames fs
    pub goes : Sends limit a (sender_of t) so.left
    pub place : t.place ≡ i
    pub same_version : t.version ≡ version
    pub number : t.last.0 + length so.left ≡ n

  pub reach : {s t : Sending} {fs : List (List ℕ)} (frames : List Frame) → stored_at shape w b s.place ≡ some a → Sends limit a (sender_of s) frames → SendCalls limit shape w b s fs t
      → Reached frames fs s.place s.version (s.last.0 + length frames) t
  reach frames k g nothing = record { so = record { sent = []; left = frames; all = refl; bytes = refl }; goes = g; place = refl; same_version = refl; number = refl }
  reach frames k g (too_short p q) = reach frames k g q
  reach {s} {t} frames k g (frame {s' = s'} {fs = fs} {out = out} {out' = out'} {len = len} p q) = go frames g (call_gave s s' out out' len k p) (λ rest e r. reach {s = s'} rest (ap (stored_at shape w b) e ∙ k) r q)
    where
      go : (l : List Frame) → Sends limit a (sender_of s) l → (v : Gave (send_next limit a (sender_of s)) out' s.place s.version len s'.place s'.version (sender_of s'))
          → ((rest : List Frame) → s'.place ≡ s.place → Sends limit a (sender_of s') rest → Reached rest fs s'.place s'.version (s'.last.0 + length rest) t)
          → Reached l (take len out' ∷ fs) s.place s.version (s.last.0 + length l) t
      go [] (all_sent e) v ih = absurd (none≢some (sym e ∙ v.is))
      go (f ∷ l) (is_next {s = z} {t = u} e r) v ih =
          let p : ◌≡◌ {A = Frame × Sender} (f, u) (v.which, sender_of s') = some_inj (sym e ∙ v.is) in
          let h : Reached l fs s'.place s'.version (s'.last.0 + length l) t = ih l v.same (subst (λ (y : Sender). Sends limit a y l) (ap (λ (x : Frame × Sender). x.1) p) r) in
          let n : s'.last.0 ≡ suc s.last.0 = number_next (sender_of s) (sender_of s') v.which v.is in
          record {
            so = record {
              sent = f ∷ h.so.sent;
              left = h.so.left;
              all = ap (λ (x : List Frame). f ∷ x) h.so.all;
              bytes = rw (h.so.bytes, v.bytes) (ap (λ (x : Frame). encode x ∷ map encode h.so.sent) (sym (ap (λ (x : Frame × Sender). x.0) p)));
            };
            goes = h.goes;
            place = h.place ∙ v.same;
            same_version = h.same_version ∙ v.same_version;
            number = omega (arith, h.number, n);
          }

-- ---- the frames of a session

frames_count : (h e last : ℕ) (bs : List (List Change)) → length (frames_of h e last bs) ≡ length bs
frames_count h e last [] = refl
frames_count h e last (b ∷ []) = refl
frames_count h e last (b ∷ c ∷ bs) = ap suc (frames_count h e (suc last) (c ∷ bs))

frames_short : (n h e last : ℕ) (bs : List (List Change)) → Each (λ (cs : List Change). sizes cs ≤ n) bs → Each (λ (f : Frame). length (encode f) ≤ 34 + n) (frames_of h e last bs)
frames_short n h e last [] k = tt
frames_short n h e last (b ∷ []) k = (omega (arith, k.0, encode_size (batch h e (suc last) last_whole b [])), tt)
frames_short n h e last (b ∷ c ∷ bs) k = (omega (arith, k.0, encode_size (batch h e (suc last) whole b [])), frames_short n h e (suc last) (c ∷ bs) k.1)

-- ---- what a sender that is still going has left

module _ (limit : ℕ) (a : Session) where
  some_left : (s : Sender) (l : List Frame) (n : ℕ) → Sends limit a s l → s.from ≡ some n → 1 ≤ length l
  unfolding send_next
  some_left s [] n (all_sent e) k = absurd (none≢some (sym e ∙ ap (sent_from limit a s) k))
  some_left s (f ∷ l) n (is_next e r) k = omega arith

  next_none : (s : Sender) (l : List Frame) → Sends limit a s l → send_next limit a s ≡ none → l ≡ []
  next_none s [] (all_sent e) k = refl
  next_none s (f ∷ l) (is_next e r) k = absurd (none≢some (sym k ∙ e))

  none_next : (s : Sender) → Sends limit a s [] → send_next limit a s ≡ none
  none_next s (all_sent e) = e

  next_head : (s : Sender) (l : List Frame) (f : Frame) (u : Sender) (P : Frame → Type 0) → Sends limit a s l → send_next limit a s ≡ some (f, u) → Each P l → P f
  next_head s [] f u P (all_sent e) k h = absurd (none≢some (sym e ∙ k))
  next_head s (g ∷ l) f u P (is_next e r) k h = subst P (ap (λ (x : Frame × Sender). x.0) (some_inj (sym e ∙ k))) h.0

  never_spent : (s : Sender) (l : List Frame) → Sends limit a s l → s.last + length l ≤ top → spent s.last s.from ≡ false
  never_spent s l g h = go s.from refl
    where
      go : (o : Option ℕ) → s.from ≡ o → spent s.last o ≡ false
      go none k = refl
      go (some n) k = lt-leb top s.last (omega (arith, some_left s l n g k))

  -- nothing turns down a call while the numbers suffice and the stamp suits the version
  never_down : (version : ℕ) (s : Sender) → spent s.last s.from ≡ false → is_version version ≡ true → suits version a.stamp ≡ true → turned_down version a s ≡ none
  never_down version s n v u = rw (n, v, stamp_suits s.from) refl
    where
      stamp_suits : (o : Option ℕ) → unsuited version a.stamp o ≡ false
      stamp_suits none = refl
      stamp_suits (some zero) = rw u refl
      stamp_suits (some (suc n)) = refl

-- ---- what an answer says

record Longer (x : Option (Frame × Sender)) (room : ℕ) : Type 0 where
  which : Frame
  after : Sender
  is : x ≡ some (which, after)
  long : room < length (encode which)

-- a refusal can only be 9
refused_only : (n : ℕ) (x : Option (Frame × Sender)) (room i version : ℕ) → call.SendStep.refused n ≡ send_answer room i version x → (n ≡ 9) × Longer x room
refused_only n none room i version e = absurd (let z : ◌≡◌ {A = ℕ} 0 1 = cc in omega arith)
refused_only n (some (f, u)) room i version e = go (ltb room (length (encode f))) refl e
  where
    go : (b : Bool) → ltb room (length (encode f)) ≡ b → call.SendStep.refused n ≡ cond b (call.SendStep.refused 9) (gives (length (encode f)) i version u) → (n ≡ 9) × Longer (some (f, u)) room
    go true k e = (cc, record { which = f; after = u; is = refl; long = ltb-true room (length (encode f)) k })
    go false k e = absurd (let z : ◌≡◌ {A = ℕ} 0 1 = cc in omega arith)

done_only : (x : Option (Frame × Sender)) (room i version : ℕ) → finished ≡ send_answer room i version x → x ≡ none
done_only none room i version e = refl
done_only (some (f, u)) room i version e = absurd (go (ltb room (length (encode f))) e)
  where
    go : (b : Bool) → finished ≡ cond b (call.SendStep.refused 9) (gives (length (encode f)) i version u) → ⊥
    go true e = let z : ◌≡◌ {A = ℕ} 0 1 = cc in omega arith
    go false e = let z : ◌≡◌ {A = ℕ} 0 1 = cc in omega arith

is_finished : (r : SendAnswer) → step_of r ≡ finished → r ≡ Ok None
is_finished (Ok (Some s)) e = absurd (let z : ◌≡◌ {A = ℕ} 0 1 = cc in omega arith)
is_finished (Ok None) e = refl
is_finished (Err r) e = absurd (let z : ◌≡◌ {A = ℕ} 0 1 = cc in omega arith)

-- ---- the theorem

module _ (limit : ℕ) (shape : Shape) (w b : List ℕ) (a : Session) (h e last : ℕ) where
  abbrev frames : List Frame
  frames = whole_frames limit h e last a

  -- what a beginning leaves
  record Beginning (version i : ℕ) (s : Sending) : Type 0 where
    place : s.place ≡ i
    sender : sender_of s ≡ new_sender h e last
    fits : last + length frames ≤ top
    known : is_version s.version ≡ true
    suited : suits s.version a.stamp ≡ true

  abbrev numbered : ℕ → ℕ → SendStart
  numbered version i = cond (ltb top (last + length (whole_batches limit a))) (call.SendStart.refused 24) (ready i version (new_sender h e last))

  begun : (version i : ℕ) (s : Sending) → ready s.place s.version (sender_of s) ≡ start_from limit version (some a) i h e last → Beginning version i s
  unfolding start_from cannot_send whole_frames
  begun version i s r = known (is_version version) refl r
    where
      go : (t : Bool) → ltb top (last + length (whole_batches limit a)) ≡ t → is_version version ≡ true → suits version a.stamp ≡ true
          → ready s.place s.version (sender_of s) ≡ cond t (call.SendStart.refused 24) (ready i version (new_sender h e last)) → Beginning version i s
      go true k v u r = absurd (let z : ◌≡◌ {A = ℕ} 0 1 = cc in omega arith)
      go false k v u r =
          let ev : s.version ≡ version = cc in
          record {
            place = cc;
            sender = cc;
            fits = omega (arith, ltb-false top (last + length (whole_batches limit a)) k, frames_count h e last (whole_batches limit a));
            known = ap is_version ev ∙ v;
            suited = ap (λ (n : ℕ). suits n a.stamp) ev ∙ u;
          }

      fitting : (t : Bool) → suits version a.stamp ≡ t → is_version version ≡ true → ready s.place s.version (sender_of s) ≡ cond (not t) (call.SendStart.refused 32) (numbered version i) → Beginning version i s
      fitting true u v r = go (ltb top (last + length (whole_batches limit a))) refl v u r
      fitting false u v r = absurd (let z : ◌≡◌ {A = ℕ} 0 1 = cc in omega arith)

      known : (t : Bool) → is_version version ≡ t
          → ready s.place s.version (sender_of s) ≡ cond (not t) (call.SendStart.refused 11) (cond (not (suits version a.stamp)) (call.SendStart.refused 32) (numbered version i)) → Beginning version i s
      known true v r = fitting (suits version a.stamp) refl v r
      known false v r = absurd (let z : ◌≡◌ {A = ℕ} 0 1 = cc in omega arith)

  module _ (t : Sending) (k : stored_at shape w b t.place ≡ some a) (d : turned_down t.version a (sender_of t) ≡ none) (out out' : List ℕ) (r : SendAnswer) (p : SendsWhole limit shape w b t out out' r) where
    answer_at : step_of r ≡ send_answer (length out) t.place t.version (send_next limit a (sender_of t))
    unfolding step_from
    answer_at = rw (k, d) at p.answer

    area_at : out' ≡ filled_by (send_next limit a (sender_of t)) out
    unfolding area_from
    area_at = rw (k, d) at p.area

  abbrev room : ℕ
  room = shape.bytes + 22 * shape.messages + (135 + longest_like a.stamp)

  all_short : Holdable shape.bytes shape.messages a → Each (λ (f : Frame). length (encode f) ≤ room) frames
  unfolding whole_frames
  all_short ok =
      each_map (λ (f : Frame). length (encode f) ≤ 34 + hold_length shape.bytes shape.messages a.stamp) (λ (f : Frame). length (encode f) ≤ room) (λ f h. omega arith) (frames_of h e last (whole_batches limit a))
      (frames_short (hold_length shape.bytes shape.messages a.stamp) h e last (whole_batches limit a) (batch_sizes limit shape.bytes shape.messages a ok))

  comes_to : (t : Sending) (fs : List (List ℕ)) (i version m : ℕ) → Holdable shape.bytes shape.messages a → stored_at shape w b t.place ≡ some a
      → (q : Reached limit shape w b a frames fs i version m t) → turned_down t.version a (sender_of t) ≡ none → SentWhole limit shape w b a h e last fs t
  comes_to t fs i version m ok k q d =
      record {
        so = q.so;
        at_end = λ out out' r z p. ended out out' r p (none_next limit a (sender_of t) (subst (Sends limit a (sender_of t)) z q.goes));
        then_all = λ out out' p. all_given (next_none limit a (sender_of t) q.so.left q.goes (done_only (send_next limit a (sender_of t)) (length out) t.place t.version (answer_at t k d out out' (Ok None) p)));
        never_unfit = λ out out' p. nine 25 (omega arith) (length out) (answer_at t k d out out' (Err Refusal.RulesBroken) p);
        never_other_version = λ out out' p. nine 11 (omega arith) (length out) (answer_at t k d out out' (Err Refusal.BadVersion) p);
        never_long = λ out out' p. nine 32 (omega arith) (length out) (answer_at t k d out out' (Err Refusal.LongStamp) p);
        never_short = λ out out' room p. too_long out room (refused_only 9 (send_next limit a (sender_of t)) (length out) t.place t.version (answer_at t k d out out' (Err Refusal.NoRoom) p)).1;
      }
    where
      ended : (out out' : List ℕ) (r : SendAnswer) → SendsWhole limit shape w b t out out' r → send_next limit a (sender_of t) ≡ none → (r ≡ Ok None) × (out' ≡ out)
      ended out out' r p x = (is_finished r (rw x at (answer_at t k d out out' r p)), rw x at (area_at t k d out out' r p))

      all_given : q.so.left ≡ [] → fs ≡ map encode frames
      all_given z = q.so.bytes ∙ ap (map encode) (sym (q.so.all ∙ ap (λ (l : List Frame). q.so.sent ++ l) z ∙ append-nil q.so.sent))

      nine : (n : ℕ) → (n ≡ 9 → ⊥) → (long : ℕ) → call.SendStep.refused n ≡ send_answer long t.place t.version (send_next limit a (sender_of t)) → ⊥
      nine n f long p = f (refused_only n (send_next limit a (sender_of t)) long t.place t.version p).0

      too_long : (out : List ℕ) → room ≤ length out → Longer (send_next limit a (sender_of t)) (length out) → ⊥
      too_long out enough l =
          let most : Frame → Type 0 = λ f. length (encode f) ≤ room in
          let few : length (encode l.which) ≤ room =
          next_head limit a (sender_of t) q.so.left l.which l.after most q.goes l.is (each_right most q.so.sent q.so.left (subst (Each most) q.so.all (all_short ok))) in
          omega (arith, l.long)

  -- from what `begin` answers, over areas of u64 and u8 that keep the rules and hold the session a at place i
  pub whole_given : (version i : ℕ) (s t : Sending) (fs : List (List ℕ)) → Small (2 ^ 64) w → Small 256 b → stored_at shape w b i ≡ some a
      → start_of (Ok s) ≡ start_from limit version (stored_at shape w b i) i h e last → SendCalls limit shape w b s fs t → SentWhole limit shape w b a h e last fs t
  whole_given version i s t fs hw hb k r g =
      let ok : Holdable shape.bytes shape.messages a = stored_holdable shape w b i a hw hb k in
      let st : Beginning version i s = begun version i s (r ∙ ap (λ (o : Option Session). start_from limit version o i h e last) k) in
      let held : stored_at shape w b s.place ≡ some a = ap (stored_at shape w b) st.place ∙ k in
      let q : Reached limit shape w b a frames fs s.place s.version (s.last.0 + length frames) t =
      reach limit shape w b a frames held (subst (λ (y : Sender). Sends limit a y frames) (sym st.sender) (sends_whole limit shape.bytes shape.messages h e last a ok)) g in
      let numbers : t.last.0 + length q.so.left ≤ top = omega (arith, q.number, st.fits, ap (λ (y : Sender). y.last) st.sender) in
      let fresh = never_spent limit a (sender_of t) q.so.left q.goes numbers in
      let d : turned_down t.version a (sender_of t) ≡ none = never_down limit a t.version (sender_of t) fresh (ap is_version q.same_version ∙ st.known) (ap (λ (n : ℕ). suits n a.stamp) q.same_version ∙ st.suited) in
      comes_to t fs s.place s.version (s.last.0 + length frames) ok (ap (stored_at shape w b) q.place ∙ held) q d
