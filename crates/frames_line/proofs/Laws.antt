-- A line and its text. Assumes nothing.
use mathlib.Core.Path.{◌≡◌, refl, sym, ap, subst, ◌∙◌}
use mathlib.Core.Bool.{Bool, true, false}
use mathlib.Core.List.{List, [], ◌∷◌}
use mathlib.Core.Option.{Option, some}
use Prim.Native.Nat.{ℕ, suc, ◌+◌, ◌-◌, ◌*◌, ◌^◌, ◌≤◌, ◌<◌}
use native.Mathlib.Omega.{arith}
use native.Mathlib.Nat.{le_trans}
use lib.ListN.{length, get_or, take, drop, length-append}
use lib.Seq.{take_at}
use lib.Dec.{T}
use borrow.Author.Tests.{le-ltb}
use Rattle.model_text.specs.Hex.{hex_of, line_bytes, refusal_text}
use Rattle.model_frame.specs.Bytes.{is_bytes}
use Rattle.model_frame.specs.Frame.{Frame}
use Rattle.model_frame.specs.Reading.{max_body}
use Rattle.model_frame.specs.Writing.{body_bytes, encode, write_outcome}
use Rattle.model_frame.proofs.Le.{are_bytes, bytes_take}
use Rattle.frame_stamp.specs.Versions.{version_of}
use Rattle.model_standby.specs.Answer as the-answer
use Rattle.model_standby.specs.Answer.{reply, refused, done}
use Rattle.model_standby.specs.State as the-state
use Rattle.model_standby.specs.State.{Standby, on_frame}
use Rattle.model_standby.proofs.Answering.{answer_bytes, Tellable, Told, Telling, frame_told}
use Rattle.store_log.proofs.Lawful.{Small}
use Rattle.store_areas.proofs.Holding.{all_holdable}
use Rattle.base_hex.specs.Lines.{ReadsLine, Puts, line_read, line_length}
use Rattle.std.specs.Prelude as std
use Rattle.std.specs.Prelude.{Some, None}
use Rattle.standby_segments.specs.Segments.{hold_areas}
use Rattle.standby_row.specs.declared.Bound.{Bound}
use Rattle.standby_counters.specs.declared.Replica.{Replica}
use Rattle.standby_state.specs.declared.Settings.{Settings}
use Rattle.standby_state.specs.declared.Answer as the_code
use Rattle.standby_state.specs.Answers as the-answers
use Rattle.standby_state.specs.Outcomes.{settings_of}
use Rattle.standby_step.specs.Steps.{room_of}
use Rattle.frames_reply.specs.Texts.{outcome_text, answer_text, record_text}
use Rattle.frames_reply.proofs.Laws.{exact_text}
use Rattle.standby_step.specs.Calls.{room_all, standby_of, allowed_all, Called}
use Rattle.model_lines.specs.Program.{frames_settings, line_text, spoken, on_bytes, line_step}
use Rattle.standby_state.specs.Answers.{plain}
use Rattle.frames_line.specs.Answering.{no_ends, the_settings, HearsCall, Hears, Heard, unread, called, AnswersLine}

-- ---- a line

-- the two buffers, the first of which was written
pub roomy : {p q o : ℕ} → q ≡ p → 8192 ≤ p → 2 * p ≤ o → (4 ≤ q) × (2 * q ≤ o)
roomy e h h₁ = (omega arith, omega arith)

-- the first takes any answer
pub takes_any : {p q : ℕ} → q ≡ p → 8192 ≤ p → answer_bytes ≤ q
takes_any e h = omega arith

-- the bytes lie in the area
pub reads_within : {bs : Option (List ℕ)} {buf : List ℕ} {r : std.Option ℕ} {m : ℕ} → ReadsLine bs buf r → r ≡ Some m → m ≤ length buf
reads_within {buf = buf} g e = subst (λ (x : std.Option ℕ). line_length x ≤ length buf) e g.within

put_text : {t out out' : List ℕ} {n : ℕ} → Puts t out out' n → take n out' ≡ t
put_text {t} {out} {out'} {n} p = ap (take n) p.wrote ∙ take_at t (drop (length t) out) n (sym p.count)

-- ---- the answer's text: what is told can be written, and fits

said : (v : ℕ) (f : Frame) {room : ℕ} → Tellable v f → answer_bytes ≤ room → outcome_text (write_outcome v (some f) room) ≡ hex_of (encode f)
unfolding write_outcome
said v f {room} t big = rw (t.writable.texts, le-ltb max_body (length (body_bytes f)) t.writable.short, le-ltb room (length (encode f)) (le_trans t.small big)) refl

text_is : (v : ℕ) (a : the-answer.Answer) {room : ℕ} → Told v a → answer_bytes ≤ room → answer_text v room a ≡ line_text a
text_is v (reply f) t big = said v f t big
text_is v (refused n) t big = refl
text_is v done t big = absurd t

no_words : (l : List ℕ) → length l ≡ 0 → l ≡ []
no_words [] e = refl
no_words (x ∷ l) e = absurd (some e)
  where
    some : suc (length l) ≡ 0 → ⊥
    some e = omega (arith, e)

-- what the lent areas and the counters are, whatever they hold
pub record Numbers (c : Replica) (w b : List ℕ) : Type 0 where
  pub epoch : c.epoch.0 < 2 ^ 64
  pub words : Small (2 ^ 64) w
  pub bytes : Small 256 b

telling : (c : Replica) (row : List Bound) (w b h : List ℕ) → Numbers c w b → Telling (settings_of the_settings (room_all row h)) (standby_of the_settings c row w b (no_ends h))
telling c row w b h n = record { epoch_u64 = omega (arith, n.epoch); sessions_ok = all_holdable the_settings.shape w b n.words n.bytes }

module _ (l : List ℕ) (c : Replica) (row : List Bound) (w b h out : List ℕ) where
  abbrev L : the-state.Settings
  L = settings_of the_settings (room_all row h)

  abbrev st : Standby
  st = standby_of the_settings c row w b (no_ends h)

  told : {c' : Replica} {row' : List Bound} {w' b' h' : List ℕ} {a : the_code.Answer} (f : List ℕ) → Numbers c w b → T (is_bytes f) → Called the_settings (on_frame f) c c' row row' w w' b b' (no_ends h) (no_ends h') a → Told (version_of c'.version2) (the-answers.answer_of b' a)
  told {c' = c'} {b' = b'} {a = a} f n ok k = go (allowed_all the_settings row w b h) refl
    where
      go : (x : Bool) → allowed_all the_settings row w b h ≡ x → Told (version_of c'.version2) (the-answers.answer_of b' a)
      go true e = subst (λ (r : the-state.Result). Told r.state.counters.version r.answer) (sym (k.steps e).is) (frame_told L st f (omega arith) ok (telling c row w b h n))
      go false e = subst (λ (x : the_code.Answer). Told (version_of c'.version2) (the-answers.answer_of b' x)) (sym (k.refuses e).0) tt

  heard_is : {c' : Replica} {row' : List Bound} {w' b' h' t : List ℕ} (x : List ℕ) → x ≡ t → Heard l c c' row row' w w' b b' h h' t → allowed_all the_settings row w b h ≡ true → record { state = standby_of the_settings c' row' w' b' (no_ends h'); text = x } ≡ line_step L st l
  heard_is x ex (unread e ec er ew eb eh) ok = (λ j. record { state = standby_of the_settings (ec j) (er j) (ew j) (eb j) (no_ends (eh j)); text = ex j }) ∙ sym (ap (on_bytes L st) e)
  heard_is {c'} {row'} {w'} {b'} {h'} x ex (called f a e k) ok =
      (λ j. record { state = standby_of the_settings c' row' w' b' (no_ends h'); text = ex j }) ∙ ap spoken (k.steps ok).is ∙ sym (ap (on_bytes L st) e)

  answers : {c' : Replica} {row' : List Bound} {w' b' h' out' t : List ℕ} {n : ℕ} → Heard l c c' row row' w w' b b' h h' t → Puts t out out' n → AnswersLine l c c' row row' w w' b b' h h' out out' n
  answers {t = t} {n = n} k p = record { text = t; heard = k; puts = p; is = heard_is _ (put_text p) k }

  pub bad_line : {c' : Replica} {row' : List Bound} {w' b' h' out' : List ℕ} {o : std.Option the_code.Answer} {n : ℕ} → Hears l c c' row row' w w' b b' h h' o → o ≡ None → Puts (refusal_text 26) out out' n → AnswersLine l c c' row row' w w' b b' h h' out out' n
  bad_line {c'} {row'} {w'} {b'} {h'} g e p =
      let q : Hears l c c' row row' w w' b b' h h' None = subst (Hears l c c' row row' w w' b b' h h') e g in
      answers (unread q.0 q.1 q.2 q.3 q.4 q.5) p

  pub some_line : {c' : Replica} {row' : List Bound} {w' b' h' out' : List ℕ} {o : std.Option the_code.Answer} {a : the_code.Answer} {n room : ℕ} → Numbers c w b → Hears l c c' row row' w w' b b' h h' o → o ≡ Some a → answer_bytes ≤ room → Puts (record_text (version_of c'.version2) room b' a) out out' n → AnswersLine l c c' row row' w w' b b' h h' out out' n
  some_line {c'} {row'} {w'} {b'} {h'} {out'} {a = a} {n = n} {room = room} num g e big p =
      let k : HearsCall l c c' row row' w w' b b' h h' a = subst (Hears l c c' row row' w w' b b' h h') e g in
      let t : Told (version_of c'.version2) (the-answers.answer_of b' a) = told k.frame num k.bytes k.call in
      answers (called k.frame a k.read k.call) (subst (λ (x : List ℕ). Puts x out out' n) (exact_text (version_of c'.version2) room b' (plain a) k.call.exact ∙ text_is (version_of c'.version2) (the-answers.answer_of b' a) t big) p)

-- the call of the bytes that were read
pub heard_call : (l : List ℕ) {buf : List ℕ} {r : std.Option ℕ} (m : ℕ) → ReadsLine (line_bytes l) buf r → ((i : ℕ) → get_or buf i 0 < 256) → r ≡ Some m → {s : Settings} {c c' : Replica} {row row' : List Bound} {w w' b b' h h' ends' : List ℕ} {a : the_code.Answer} → s ≡ the_settings → length ends' ≡ 0 → Called s (on_frame (take (m - 0) (drop 0 buf))) c c' row row' w w' b b' (no_ends h) (hold_areas h' ends') a → HearsCall l c c' row row' w w' b b' h h' a
heard_call l {buf = buf} m g ok e {s = s} {c = c} {c' = c'} {row = row} {row' = row'} {w = w} {w' = w'} {b = b} {b' = b'} {h = h} {h' = h'} {ends' = ends'} {a = a} es none k =
    let cut : m - 0 ≡ m = omega arith in
    record {
      frame = take m buf;
      bytes = bytes_take m buf (are_bytes buf ok);
      read = sym g.bytes ∙ ap (line_read buf) e;
      call =
          subst (λ (x : ℕ). Called the_settings (on_frame (take x buf)) c c' row row' w w' b b' (no_ends h) (no_ends h') a) cut
          (subst (λ (x : Settings). Called x (on_frame (take (m - 0) buf)) c c' row row' w w' b b' (no_ends h) (no_ends h') a) es
          (subst (λ (x : List ℕ). Called s (on_frame (take (m - 0) buf)) c c' row row' w w' b b' (no_ends h) (hold_areas h' x) a) (no_words ends' none) k));
    }

-- a line without bytes
pub heard_none : (l : List ℕ) {buf : List ℕ} {r : std.Option ℕ} → ReadsLine (line_bytes l) buf r → r ≡ None → {c : Replica} {row : List Bound} {w b h : List ℕ} → Hears l c c row row w w b b h h None
heard_none l {buf = buf} g e = (sym g.bytes ∙ ap (line_read buf) e, refl, refl, refl, refl, refl)

-- the text lies in the output area
pub told_fits : {l : List ℕ} {c c' : Replica} {row row' : List Bound} {w w' b b' h h' out out' : List ℕ} {n : ℕ} → AnswersLine l c c' row row' w w' b b' h h' out out' n → n ≤ length out'
told_fits {out = out} {out' = out'} {n = n} k =
    let all : length out' ≡ length k.text + length (drop (length k.text) out) = ap (λ (x : List ℕ). length x) k.puts.wrote ∙ length-append k.text (drop (length k.text) out) in
    omega (arith, k.puts.count, all)

-- the code's settings are the definition's, with hold areas of 22,504 bytes for four handles, as `main` lends them
the_settings_lem : settings_of the_settings (room_of 22504 4) ≡ frames_settings
the_settings_lem = refl
