-- The lines of a session, part by part. Assumes nothing.
use Rattle.std.proofs.Common.{◌≡◌, ℕ, suc, ◌^◌, ◌<◌, ◌≤◌, Bool, true, false, List, [], ◌∷◌, ◌++◌, length, take, refl, sym, ap, subst, ◌∙◌, arith, append-nil, length-append, decimal, codes, le-leb}
use Rattle.std.proofs.Math.Option.{Option, none, some}
use lib.ListN.{length-reverse}
use lib.Seq.{length-take-le}
use Rattle.model_frame.specs.Frame as the_frame
use Rattle.model_frame.specs.Frame.{Key}
use Rattle.model_session.specs.Session.{Msg, Rising, stored_bytes}
use Rattle.model_session.specs.Summary.{numbered_from, summary}
use Rattle.model_standby.specs.Store.{Place}
use Rattle.model_screen.specs.Columns.{flow, lines, at_right, at_left, grouped}
use Rattle.model_screen.specs.SessionText.{last_number, key_parts, suffix_parts, stored_parts, flight_parts, or_words, yes_or_no, session_text}
use Rattle.model_screen.proofs.Widths.{flow_short}
use Rattle.store_log.specs.Log.{msg, rest_of}
use Rattle.store_log.proofs.Lawful.{Small}
use Rattle.store_log.proofs.Walk.{stored_reverse}
use Rattle.store_place.specs.Place.{place_in, stored_key, rest_in, PositionIn}
use Rattle.store_areas.specs.declared.Shape.{Shape}
use Rattle.store_areas.specs.Areas.{in_use, place_at}
use Rattle.store_areas.proofs.Holding.{holdable_at}
use Rattle.store_sessions.specs.Answers.{rest_at, PositionAt}
use Rattle.screen_text.specs.declared.text.Text.{Text}
use Rattle.screen_text.specs.Adding.{Adds, Flows}
use Rattle.screen_text.proofs.Laws.{adds_none, adds_on, flows_on, line_ends}
use Rattle.screen_session.specs.Shown.{screen_at, lines_of, shown_lines}

-- ---- the key

pub with_suffix : {x y z : Text} {column next : ℕ} (s : List ℕ) → 0 < length s → Flows x column (codes "/ " ++ (s ++ [])) y next → Adds y (10 ∷ []) z → Adds x (flow column (suffix_parts s)) z
with_suffix [] h f e = absurd (no h)
  where
    no : 0 < 0 → ⊥
    no h = omega arith
with_suffix (b ∷ bs) h f e = flows_on [] f (ap (λ (l : List ℕ). codes "/ " ++ l) (append-nil (b ∷ bs))) (line_ends _ e)

pub no_suffix : {x y : Text} (column : ℕ) (s : List ℕ) → length s ≤ 0 → Adds x (10 ∷ []) y → Adds x (flow column (suffix_parts s)) y
no_suffix column [] h e = line_ends _ e
no_suffix column (b ∷ bs) h e = absurd (no h)
  where
    no : length (b ∷ bs) ≤ 0 → ⊥
    no h = omega arith

-- ---- the messages

-- none is left to be read
pub none_left : (s : Shape) (w b : List ℕ) (i left : ℕ) → left ≡ 0 → rest_at s w b i left ≡ []
unfolding rest_at rest_in rest_of
none_left s w b i left z = rw z refl

-- as many messages as are left, and their bytes
pub left_length : (s : Shape) (w b : List ℕ) (i left dist : ℕ) → PositionAt s w b i left dist → left ≡ length (rest_at s w b i left)
unfolding PositionAt PositionIn rest_at rest_in rest_of
left_length s w b i left dist p = sym (length-reverse (take left _) ∙ length-take-le left _ p.many)

pub left_bytes : (s : Shape) (w b : List ℕ) (i left dist : ℕ) → PositionAt s w b i left dist → dist ≡ stored_bytes (rest_at s w b i left)
unfolding PositionAt PositionIn rest_at rest_in rest_of
left_bytes s w b i left dist p = p.sum ∙ sym (stored_reverse (take left _))

pub stored_none : {x y z : Text} {column next : ℕ} {ms : List Msg} → ms ≡ [] → Flows x column (codes "   stored      none") y next → Adds y (10 ∷ []) z → Adds x (flow column (stored_parts ms)) z
stored_none e f a = rw e (flows_on _ f refl (line_ends _ a))

pub stored_some : {x y z u v o : Text} {column at to count end first last left dist : ℕ} {ms : List Msg} (t : List ℕ) (rest : List Msg) → ms ≡ msg first t ∷ rest → last ≡ last_number first rest → left ≡ length ms → dist ≡ stored_bytes ms
    → Flows x column (codes "   stored      " ++ (decimal first ++ [])) y at → Flows y at (codes "to " ++ (decimal last ++ codes ":")) z to → Flows z to (grouped left ++ codes ",") u count → Flows u count (grouped dist ++ codes " bytes") v end
    → Adds v (10 ∷ []) o → Adds x (flow column (stored_parts ms)) o
stored_some {first = first} t rest e el en eb f g h k a =
    rw e
    (flows_on _ f (ap (λ (l : List ℕ). codes "   stored      " ++ l) (append-nil (decimal first)))
    (flows_on _ g (ap (λ (n : ℕ). codes "to " ++ decimal n ++ codes ":") el)
    (flows_on _ h (ap (λ (n : ℕ). grouped n ++ codes ",") (en ∙ ap length e))
    (flows_on _ k (ap (λ (n : ℕ). grouped n ++ codes " bytes") (eb ∙ ap stored_bytes e)) (line_ends _ a)))))

-- ---- all lines

pub key_there : (C M : ℕ) (w b : List ℕ) {p : Place} → place_in C M w b ≡ p → stored_key w b ≡ p.key
unfolding place_in
key_there C M w b e = ap (λ (q : Place). q.key) e

pub all_lines : {t u v w x y : Text} (i : ℕ) (p : Place) {k : Key} {m : the_frame.Summary} {d : Bool} → k ≡ p.key → m ≡ summary p.stored.session 0 → d ≡ p.stored.durable → Adds t (flow 0 (key_parts i k)) u
    → Adds u (flow 0 ((codes "      next outgoing " ++ at_right 12 (decimal m.next_out)) ∷ stored_parts (numbered_from 1 p.stored.session.messages))) v
    → Adds v (flow 0 ((codes "      next incoming " ++ at_right 12 (decimal m.next_in)) ∷ flight_parts m.in_flight)) w
    → Adds w (flow 0 ((codes "      since " ++ at_left 20 (or_words (codes "no time") m.stamp_text)) ∷ codes "   marks      " ∷ or_words (codes "none") m.marks_text ∷ [])) x
    → Adds x (flow 0 ((codes "      durable " ++ yes_or_no d) ∷ [])) y → Adds t (lines_of i p) y
unfolding summary
all_lines {t} {y = y} i p ek em ed a b c e f =
    subst (λ (l : List ℕ). Adds t l y)
    (λ j.
    lines
    (key_parts i (ek j)
    ∷ ((codes "      next outgoing " ++ at_right 12 (decimal (em j).next_out)) ∷ stored_parts (numbered_from 1 p.stored.session.messages))
    ∷ ((codes "      next incoming " ++ at_right 12 (decimal (em j).next_in)) ∷ flight_parts (em j).in_flight)
    ∷ ((codes "      since " ++ at_left 20 (or_words (codes "no time") (em j).stamp_text)) ∷ codes "   marks      " ∷ or_words (codes "none") (em j).marks_text ∷ [])
    ∷ ((codes "      durable " ++ yes_or_no (ed j)) ∷ [])
    ∷ []))
    (adds_on a (adds_on b (adds_on c (adds_on e (adds_on f adds_none)))))

-- ---- their length

few_stored : (ms : List Msg) → length (stored_parts ms) ≤ 4
few_stored [] = omega arith
few_stored (m ∷ ms) = omega arith

few_flight : (o : Option ℕ) → length (flight_parts o) ≤ 3
few_flight none = omega arith
few_flight (some n) = omega arith

few_key : (i : ℕ) (k : Key) → length (key_parts i k) ≤ 5
few_key i k = go k.suffix
  where
    go : (s : List ℕ) → length (at_right 2 (decimal i) ∷ (codes " " ++ k.begin) ∷ (codes " " ++ k.sender) ∷ (codes "-> " ++ k.target) ∷ suffix_parts s) ≤ 5
    go [] = omega arith
    go (b ∷ bs) = omega arith

lines_short : (a b c d e : List (List ℕ)) → length a ≤ 5 → length b ≤ 5 → length c ≤ 4 → length d ≤ 3 → length e ≤ 1 → length (lines (a ∷ b ∷ c ∷ d ∷ e ∷ [])) ≤ 1500
lines_short a b c d e ha hb hc hd he =
    let x : List ℕ = flow 0 e ++ [] in
    let y : List ℕ = flow 0 d ++ x in
    let z : List ℕ = flow 0 c ++ y in
    let u : List ℕ = flow 0 b ++ z in
    omega (arith, flow_short 0 a, flow_short 0 b, flow_short 0 c, flow_short 0 d, flow_short 0 e, length-append (flow 0 a) u, length-append (flow 0 b) z, length-append (flow 0 c) y, length-append (flow 0 d) x, length-append (flow 0 e) [], ha, hb, hc, hd, he)

pub shown_short : (s : Shape) (w b : List ℕ) (i : ℕ) → length (shown_lines s w b i) ≤ 1500
unfolding shown_lines
shown_short s w b i =
    let x : Place = place_at s w b i in
    lines_short _ _ _ _ _ (few_key i x.key) (omega (arith, few_stored (numbered_from 1 x.stored.session.messages))) (omega (arith, few_flight x.stored.session.in_flight)) (omega arith) (omega arith)

-- ---- any place

numbered_all : (low next : ℕ) (ms : List Msg) → 1 ≤ low → Rising low next ms → numbered_from 1 ms ≡ ms
numbered_all low next [] h r = refl
numbered_all low next (m ∷ ms) h r = rw (le-leb 1 m.num (omega (arith, h, r.0))) (ap (λ (l : List Msg). m ∷ l) (numbered_all (suc m.num) next ms (omega arith) r.3))

pub shown_there : (s : Shape) (w b : List ℕ) (i : ℕ) → in_use s w b i ≡ true → Small (2 ^ 64) w → Small 256 b → shown_lines s w b i ≡ session_text i (place_at s w b i)
unfolding shown_lines session_text
shown_there s w b i u sw sb =
    let x : Place = place_at s w b i in
    ap
    (λ (ms : List Msg).
    lines
    (key_parts i x.key ∷ ((codes "      next outgoing " ++ at_right 12 (decimal x.stored.session.next_out)) ∷ stored_parts ms)
    ∷ ((codes "      next incoming " ++ at_right 12 (decimal x.stored.session.next_in)) ∷ flight_parts x.stored.session.in_flight)
    ∷ ((codes "      since " ++ at_left 20 (or_words (codes "no time") x.stored.session.stamp)) ∷ codes "   marks      " ∷ or_words (codes "none") x.stored.session.marks ∷ [])
    ∷ ((codes "      durable " ++ yes_or_no x.stored.durable) ∷ [])
    ∷ []))
    (numbered_all 1 x.stored.session.next_out x.stored.session.messages (omega arith) (holdable_at s w b i sw sb).msgs_rise)

pub told_there : (s : Shape) (w b : List ℕ) (i : ℕ) → in_use s w b i ≡ true → Small (2 ^ 64) w → Small 256 b → some (shown_lines s w b i) ≡ screen_at s w b i
unfolding screen_at
told_there s w b i u sw sb = rw u (ap some (shown_there s w b i u sw sb))

pub told_unfit : (s : Shape) (w b : List ℕ) (i : ℕ) → in_use s w b i ≡ false → none ≡ screen_at s w b i
unfolding screen_at
told_unfit s w b i u = rw u refl
