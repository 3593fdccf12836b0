-- The two passes over the messages, and the listing's answers. Assumes nothing.
use mathlib.Core.Path.{◌≡◌, refl, sym, ap, subst, ◌∙◌}
use mathlib.Core.Bool.{Bool, true, false, cond, not, ◌&&◌, ◌||◌, true≢false}
use mathlib.Core.List.{List, [], ◌∷◌, ◌++◌, map, reverse, append_assoc, append-nil}
use Prim.Native.Nat.{ℕ, suc, ◌+◌, ◌*◌, ◌-◌, ◌/◌, ◌%◌, ◌≤◌, ◌<◌}
use native.Mathlib.Omega.{arith}
use lib.ListN.{length, set, take, drop, length-append, length-drop, length-map, length-take, length-reverse}
use lib.Seq.{sets, sets-eq, length-sets, length-take-le, take_at, drop_at, drop-drop}
use lib.Dec.{leb, eqb}
use borrow.Author.Tests.{le-leb, lt-leb, leb-true, leb-false, eq-eqb, ne_eqb}
use Rattle.std.proofs.lemmas.Bool.{and_parts}
use Rattle.model_session.specs.Session.{Msg, stored_bytes}
use Rattle.model_session.specs.Summary.{numbered_from}
use Rattle.model_resend.specs.Resend.{Range, is_range, are_ranges, lies_in_some, Served, serve, set_of, listed, served, refusal_of}
use Rattle.model_resend.proofs.Sets.{empty_so}
use Rattle.store_log.specs.Log.{msg, newest_first, rest_of, Position}
use Rattle.store_log.specs.declared.FoundMessage.{FoundMessage}
use Rattle.store_log.specs.declared.LogPosition.{LogPosition}
use Rattle.store_log.specs.declared.log.Log.{Log}
use Rattle.store_log.proofs.Turning.{Next}
use Rattle.store_place.specs.Place.{next_out_of, rest_in, PositionIn, NextMessageIn}
use Rattle.store_place.proofs.Messages.{stands_out, read_in}
use Rattle.store_areas.specs.declared.Shape.{Shape}
use Rattle.store_areas.specs.Areas.{in_use, slice, words_at, place_words, bytes_at, place_bytes}
use Rattle.store_sessions.specs.declared.Message.{Message}
use Rattle.store_sessions.specs.Answers.{rest_at, PositionAt, FromAt, NextMessageAt}
use Rattle.store_resend.specs.Ranges.{ranges_of, messages_at, Keeps, Serves, Counts, Adds, ListEntry, entry_words, words_of, served_at, is_inside, all_inside, Written, entry_words_of, entered, HasRoom, Fills, Lists, lowest_of}
use Rattle.store_resend.specs.Passes.{LogAt, Counting, Filling, Begun, Carries, PassesOver}
use Rattle.store_resend.specs.declared.Kept.{Kept}
use Rattle.store_resend.specs.declared.Tally.{Tally}
use Rattle.store_resend.specs.declared.Listed.{Listed}
use Rattle.store_resend.proofs.Laws.{many}

-- ---- one message

adds_none : (set size : ℕ) (t : Tally) → set ≡ 0 → Adds set size t t
adds_none set size t z =
    let e : eqb set 0 ≡ true = eq-eqb set 0 z in
    record { many = rw e refl; sum = rw e refl }

flip : (a b : Bool) → a ≡ not b → b ≡ not a
flip true true e = absurd (true≢false e)
flip true false e = refl
flip false true e = refl
flip false false e = absurd (true≢false (sym e))

-- whether a message is listed, by the set that is kept
one_listed : (rs : List Range) (k : Kept) (m : Msg) (ms : List Msg) → Serves rs m.num k → listed rs (m ∷ ms) ≡ cond (eqb k.set 0) (listed rs ms) (m ∷ listed rs ms)
one_listed rs k m ms s =
    ap (λ (b : Bool). cond b (m ∷ listed rs ms) (listed rs ms)) (flip (eqb (set_of rs m.num) 0) (lies_in_some rs m.num) (empty_so rs m.num) ∙ ap (λ (x : ℕ). not (eqb x 0)) (s.same.keeps m.num s.from s.upto))
    ∙ turned (eqb k.set 0)
  where
    turned : (b : Bool) → cond (not b) (m ∷ listed rs ms) (listed rs ms) ≡ cond b (listed rs ms) (m ∷ listed rs ms)
    turned true = refl
    turned false = refl

text_length : (b : List ℕ) (at first again rest : ℕ) → at + first ≤ length b → again + rest ≤ length b → length (take first (drop at b) ++ take rest (drop again b)) ≡ first + rest
text_length b at first again rest h g =
    let x : length (take first (drop at b)) ≡ first = length-take-le first (drop at b) (omega (arith, length-drop at b)) in
    let y : length (take rest (drop again b)) ≡ rest = length-take-le rest (drop again b) (omega (arith, length-drop again b)) in
    omega (arith, length-append (take first (drop at b)) (take rest (drop again b)))

-- a message read, wherever its bytes stand
pub record Turn (s : Shape) (w b : List ℕ) (i left dist number size left' dist' : ℕ) : Type 0 where
  pub text : List ℕ
  pub is : rest_at s w b i left ≡ msg number text ∷ rest_at s w b i left'
  pub long : length text ≡ size
  pub stands : PositionAt s w b i left' dist'
  pub fewer : left' + 1 ≡ left
  pub nearer : dist' + size ≡ dist

turn_at : (s : Shape) (w b : List ℕ) (i : ℕ) {left dist number at f again r left' dist' : ℕ} → NextMessageAt s w b i left dist number at f again r left' dist' → Turn s w b i left dist number (f + r) left' dist'
turn_at s w b i {left} {dist} {number} {at} {f} {again} {r} p = record {
  text = take f (drop at b) ++ take r (drop again b);
  is = p.is;
  long = text_length b at f again r p.inside p.inside_again;
  stands = p.stands;
  fewer = p.fewer;
  nearer = p.nearer;
}

-- the same by the log of the place
module _ (s : Shape) (w b : List ℕ) (i : ℕ) (log : Log) (at : LogAt s w b i log) where
  abbrev pw : List ℕ
  pw = slice (words_at s i) (place_words s) w

  abbrev pb : List ℕ
  pb = slice (bytes_at s i) (place_bytes s) b

  pub stands_in_log : {left dist : ℕ} → PositionAt s w b i left dist → Position (length log.bytes.now) log.max log.next log.words.now log.bytes.now left dist
  unfolding PositionAt
  stands_in_log {left} {dist} g = stands_out s.bytes s.messages pw pb at.long log.words.now log.bytes.now log.max log.next at.words at.bytes at.max at.next left dist g

  pub turn_in : {p : LogPosition} {found : FoundMessage} → Next log p found → Turn s w b i p.left p.dist found.number (found.span.first + found.span.rest) found.next.left found.next.dist
  unfolding PositionAt rest_at
  turn_in {p} {found} n =
      let f : NextMessageIn s.bytes s.messages pw pb p.left p.dist found.number (found.span.start + 224) found.span.first found.span.rest found.next.left found.next.dist =
      read_in s.bytes s.messages pw pb at.long log.words.now log.bytes.now log.max log.next at.words at.bytes at.max at.next p.left p.dist found.number found.span.start found.span.first found.span.rest found.next.left found.next.dist n in
      record {
        text = take found.span.first (drop (found.span.start + 224) pb) ++ take found.span.rest (drop 224 pb);
        is = f.is;
        long = text_length pb (found.span.start + 224) found.span.first 224 found.span.rest (omega (arith, f.inside, at.long)) (omega (arith, f.front, at.long));
        stands = f.stands;
        fewer = f.fewer;
        nearer = f.nearer;
      }

rest_none : (s : Shape) (w b : List ℕ) (i : ℕ) → rest_at s w b i 0 ≡ []
unfolding rest_at rest_in rest_of
rest_none s w b i = refl

-- ---- one entry more

map_more : (b : List ℕ) (es : List ListEntry) (e : ListEntry) → map (served_at b) (es ++ (e ∷ [])) ≡ map (served_at b) es ++ (served_at b e ∷ [])
map_more b [] e = refl
map_more b (x ∷ es) e = ap (λ (r : List Served). served_at b x ∷ r) (map_more b es e)

inside_more : (b : List ℕ) (es : List ListEntry) (e : ListEntry) → all_inside b es ≡ true → is_inside b e ≡ true → all_inside b (es ++ (e ∷ [])) ≡ true
inside_more b [] e h t = rw t refl
inside_more b (x ∷ es) e h t =
    let two = and_parts (is_inside b x) (all_inside b es) h in
    rw two.0 (inside_more b es e two.1 t)

pub words_many : (es : List ListEntry) → length (words_of es) ≡ 6 * length es
words_many [] = refl
words_many (e ∷ es) = omega (arith, length-append (entry_words e) (words_of es), words_many es)

words_more : (es : List ListEntry) (e : ListEntry) → words_of (es ++ (e ∷ [])) ≡ words_of es ++ entry_words e
words_more [] e = append-nil (entry_words e)
words_more (x ∷ es) e = ap (λ (r : List ℕ). entry_words x ++ r) (words_more es e) ∙ sym (append_assoc (entry_words x) (words_of es) (entry_words e))

-- an entry stored behind those that stand there
one_more : (old : List ℕ) (es : List ListEntry) (e : ListEntry) → 6 * length es + 6 ≤ length old
    → sets (words_of es ++ drop (6 * length es) old) (6 * length es) (entry_words e) ≡ words_of (es ++ (e ∷ [])) ++ drop (6 * length (es ++ (e ∷ []))) old
one_more old es e fits =
    let n : ℕ = 6 * length es in
    let front : List ℕ = words_of es in
    let back : List ℕ = drop n old in
    let size : length front ≡ n = words_many es in
    let long : n + 6 ≤ length (front ++ back) = omega (arith, length-append front back, size, length-drop n old) in
    let more : 6 * length (es ++ (e ∷ [])) ≡ n + 6 = omega (arith, length-append es (e ∷ [])) in
    sets-eq (entry_words e) (front ++ back) n long
    ∙ ap (λ (x : List ℕ). x ++ entry_words e ++ drop (n + 6) (front ++ back)) (take_at front back n size)
    ∙ ap (λ (x : List ℕ). front ++ entry_words e ++ x) (sym (drop-drop 6 n (front ++ back)) ∙ ap (drop 6) (drop_at front back n size) ∙ drop-drop 6 n old ∙ ap (λ (k : ℕ). drop k old) (sym more))
    ∙ ap (λ (x : List ℕ). x ++ drop (6 * length (es ++ (e ∷ []))) old) (sym (words_more es e))

-- ---- counting

module _ (s : Shape) (w b : List ℕ) (i : ℕ) (rs : List Range) (first back : ℕ) where
  abbrev still : ℕ → List Msg
  still left = rest_at s w b i left

  pub count_starts : PositionAt s w b i first back → Counting s w b i rs first back first back (record { length = 0; bytes = 0 }) (record { base = 1; until = 0; set = 0 })
  count_starts p = record {
    stands = p;
    keeps = record { keeps = λ m low high. absurd (no m low high) };
    many = omega arith;
    sum = omega arith;
    few = omega arith;
    less = omega arith;
  }
    where
      no : (m : ℕ) → 1 ≤ m → m ≤ 0 → ⊥
      no m low high = omega arith

  pub counts_turn : {left dist number size left' dist' : ℕ} {t t' : Tally} {k k' : Kept} → Counting s w b i rs first back left dist t k → Turn s w b i left dist number size left' dist' → Serves rs number k' → Adds k'.set size t t'
      → Counting s w b i rs first back left' dist' t' k'
  counts_turn {left} {dist} {number} {size} {left'} {dist'} {t} {t'} {k} {k'} g p e a = go (eqb k'.set 0) refl
    where
      text : List ℕ
      text = p.text

      now : listed rs (still left) ≡ cond (eqb k'.set 0) (listed rs (still left')) (msg number text ∷ listed rs (still left'))
      now = ap (listed rs) p.is ∙ one_listed rs k' (msg number text) (still left') e

      go : (c : Bool) → eqb k'.set 0 ≡ c → Counting s w b i rs first back left' dist' t' k'
      go true z =
          let l : listed rs (still left) ≡ listed rs (still left') = now ∙ rw z refl in
          let n : t'.length ≡ t.length = a.many ∙ rw z refl in
          let m : t'.bytes ≡ t.bytes = a.sum ∙ rw z refl in
          record {
            stands = p.stands;
            keeps = e.same;
            many = omega (arith, ap length l, g.many);
            sum = omega (arith, ap stored_bytes l, g.sum);
            few = omega (arith, g.few, p.fewer);
            less = omega (arith, g.less, p.nearer);
          }
      go false z =
          let l : listed rs (still left) ≡ msg number text ∷ listed rs (still left') = now ∙ rw z refl in
          let n : t'.length ≡ t.length + 1 = a.many ∙ rw z refl in
          let m : t'.bytes ≡ t.bytes + size = a.sum ∙ rw z refl in
          record {
            stands = p.stands;
            keeps = e.same;
            many = omega (arith, ap length l, g.many);
            sum = omega (arith, ap stored_bytes l, g.sum, p.long);
            few = omega (arith, g.few, p.fewer);
            less = omega (arith, g.less, p.nearer);
          }

  pub counts_on : {left dist number at f again r left' dist' : ℕ} {t t' : Tally} {k k' : Kept} → Counting s w b i rs first back left dist t k → NextMessageAt s w b i left dist number at f again r left' dist' → Serves rs number k'
      → Adds k'.set (f + r) t t' → Counting s w b i rs first back left' dist' t' k'
  counts_on g p e a = counts_turn g (turn_at s w b i p) e a

  pub count_ends : {left dist : ℕ} {t : Tally} {k : Kept} → left ≤ 0 → Counting s w b i rs first back left dist t k → Counts rs (still first) back t
  count_ends {left} {dist} {t} end g =
      let z : left ≡ 0 = omega arith in
      let l : listed rs (still left) ≡ [] = ap (λ (n : ℕ). listed rs (still n)) z ∙ ap (listed rs) (rest_none s w b i) in
      record { many = omega (arith, ap length l, g.many); sum = omega (arith, ap stored_bytes l, g.sum); within = omega (arith, g.less) }

  -- ---- writing

  pub fill_starts : (old : List ℕ) → PositionAt s w b i first back → Filling s w b i rs first back old first back 0 (record { base = 1; until = 0; set = 0 }) old
  fill_starts old p = record {
    stands = p;
    keeps = record { keeps = λ m low high. absurd (no m low high) };
    size = refl;
    entries = [];
    many = refl;
    shown = refl;
    inside = refl;
    words = refl;
  }
    where
      no : (m : ℕ) → 1 ≤ m → m ≤ 0 → ⊥
      no m low high = omega arith

  module _ {old : List ℕ} {left dist n left' dist' : ℕ} {k k' : Kept} {new : List ℕ} (m : Message) (g : Filling s w b i rs first back old left dist n k new) (p : NextMessageAt s w b i left dist m.number m.first.at m.first.len m.second.at m.second.len left' dist') (e : Serves rs m.number k') where
    abbrev text : List ℕ
    text = take m.first.len (drop m.first.at b) ++ take m.second.len (drop m.second.at b)

    abbrev own : ListEntry
    own = entry_words_of k'.set m

    now : listed rs (still left) ≡ cond (eqb k'.set 0) (listed rs (still left')) (msg m.number text ∷ listed rs (still left'))
    now = ap (listed rs) p.is ∙ one_listed rs k' (msg m.number text) (still left') e

    counted_so : length g.entries + length (listed rs (still left)) ≡ length (listed rs (still first))
    counted_so =
        let x : length (map (served_at b) g.entries ++ served rs (still left)) ≡ length (served rs (still first)) = ap length g.shown in
        omega (arith, x, length-append (map (served_at b) g.entries) (served rs (still left)), length-map g.entries (served_at b), length-map (listed rs (still left)) (serve rs), length-map (listed rs (still first)) (serve rs))

    pub room : 6 * length (listed rs (still first)) ≤ length old → HasRoom k'.set n new
    room h z =
        let c : eqb k'.set 0 ≡ false = ne_eqb k'.set 0 z in
        let l : listed rs (still left) ≡ msg m.number text ∷ listed rs (still left') = now ∙ rw c refl in
        omega (arith, ap length l, counted_so, g.many, g.size)

    pub fills_on : {n' : ℕ} {new' : List ℕ} → 6 * length (listed rs (still first)) ≤ length old → n' ≡ cond (eqb k'.set 0) n (n + 1) → new' ≡ entered n k'.set m new → Filling s w b i rs first back old left' dist' n' k' new'
    fills_on {n'} {new'} h next-so words-so = go (eqb k'.set 0) refl
      where
        go : (c : Bool) → eqb k'.set 0 ≡ c → Filling s w b i rs first back old left' dist' n' k' new'
        go true z =
            let l : listed rs (still left) ≡ listed rs (still left') = now ∙ rw z refl in
            let same : n' ≡ n = next-so ∙ rw z refl in
            let area : new' ≡ new = words-so ∙ rw z refl in
            record {
              stands = p.stands;
              keeps = e.same;
              size = ap length area ∙ g.size;
              entries = g.entries;
              many = g.many ∙ sym same;
              shown = ap (λ (x : List Msg). map (served_at b) g.entries ++ map (serve rs) x) (sym l) ∙ g.shown;
              inside = g.inside;
              words = area ∙ g.words;
            }
        go false z =
            let l : listed rs (still left) ≡ msg m.number text ∷ listed rs (still left') = now ∙ rw z refl in
            let next : n' ≡ n + 1 = next-so ∙ rw z refl in
            let area : new' ≡ sets new (6 * n) (entry_words own) = words-so ∙ rw z refl in
            let set_so : set_of rs m.number ≡ k'.set = e.same.keeps m.number e.from e.upto in
            let fits : 6 * length g.entries + 6 ≤ length old = omega (arith, ap length l, counted_so) in
            record {
              stands = p.stands;
              keeps = e.same;
              size = ap length area ∙ length-sets new (6 * n) (entry_words own) ∙ g.size;
              entries = g.entries ++ (own ∷ []);
              many = omega (arith, length-append g.entries (own ∷ []), g.many);
              shown = ap (λ (x : List Served). x ++ served rs (still left')) (map_more b g.entries own)
                  ∙ append_assoc (map (served_at b) g.entries) (served_at b own ∷ []) (served rs (still left'))
                  ∙ ap (λ (x : ℕ). map (served_at b) g.entries ++ (record { message = msg m.number text; set = x } ∷ served rs (still left'))) (sym set_so)
                  ∙ ap (λ (x : List Msg). map (served_at b) g.entries ++ map (serve rs) x) (sym l) ∙ g.shown;
              inside = inside_more b g.entries own g.inside (inside_so p.inside p.inside_again);
              words = area ∙ ap (λ (x : ℕ). sets new (6 * x) (entry_words own)) (sym g.many) ∙ ap (λ (x : List ℕ). sets x (6 * length g.entries) (entry_words own)) g.words
                  ∙ one_more old g.entries own fits;
            }
          where
            inside_so : m.first.at + m.first.len ≤ length b → m.second.at + m.second.len ≤ length b → is_inside b own ≡ true
            inside_so x y =
                let u : leb (m.first.at + m.first.len) (length b) ≡ true = le-leb (m.first.at + m.first.len) (length b) x in
                let v : leb (m.second.at + m.second.len) (length b) ≡ true = le-leb (m.second.at + m.second.len) (length b) y in
                rw (u, v) refl

  -- a message in no range
  skips : {old : List ℕ} {left dist n number size left' dist' : ℕ} {k k' : Kept} {new : List ℕ} → Filling s w b i rs first back old left dist n k new → Turn s w b i left dist number size left' dist' → Serves rs number k' → k'.set ≡ 0
      → Filling s w b i rs first back old left' dist' n k' new
  skips {old} {left} {dist} {n} {number} {size} {left'} {dist'} {k} {k'} {new} g p e none =
      let z : eqb k'.set 0 ≡ true = eq-eqb k'.set 0 none in
      let l : listed rs (still left) ≡ listed rs (still left') = ap (listed rs) p.is ∙ one_listed rs k' (msg number p.text) (still left') e ∙ rw z refl in
      record {
        stands = p.stands;
        keeps = e.same;
        size = g.size;
        entries = g.entries;
        many = g.many;
        shown = ap (λ (x : List Msg). map (served_at b) g.entries ++ map (serve rs) x) (sym l) ∙ g.shown;
        inside = g.inside;
        words = g.words;
      }

  pub fill_ends : {old : List ℕ} {left dist n : ℕ} {k : Kept} {new : List ℕ} → left ≤ 0 → Filling s w b i rs first back old left dist n k new → Written rs b (still first) old new
  fill_ends {old} {left} {dist} {n} {k} {new} end g =
      let z : left ≡ 0 = omega arith in
      let l : listed rs (still left) ≡ [] = ap (λ (m : ℕ). listed rs (still m)) z ∙ ap (listed rs) (rest_none s w b i) in
      record {
        entries = g.entries;
        are = sym (append-nil (map (served_at b) g.entries)) ∙ ap (λ (x : List Msg). map (served_at b) g.entries ++ map (serve rs) x) (sym l) ∙ g.shown;
        inside = g.inside;
        words = g.words;
      }

-- ---- messages one after the other that one set serves

module _ (s : Shape) (w b : List ℕ) (i first back : ℕ) (t : Tally) (old : List ℕ) (k : Kept) where
  pub carry_starts : Carries s w b i k first back t old first back t old
  carry_starts = record { fewer = omega arith; nearer = omega arith; fills = λ rs f h o fits g. g; counts = λ rs f h g. g }

  -- nothing was read yet
  pub follow_starts : (n : ℕ) → t.length ≡ n → Carries s w b i k first back t old first back (record { length = n; bytes = t.bytes + (back - back) }) old
  follow_starts n e =
      let none : t.bytes ≡ t.bytes + (back - back) = omega arith in
      subst (λ (u : Tally). Carries s w b i k first back t old first back u old) (λ j. record { length = e j; bytes = none j }) carry_starts

  module _ {left dist : ℕ} {u : Tally} {new : List ℕ} (m : Message) (c : Carries s w b i k first back t old left dist u new)
      (p : NextMessageAt s w b i left dist m.number m.first.at m.first.len m.second.at m.second.len m.next.left m.next.dist) (low : k.base ≤ m.number) (high : m.number ≤ k.until) where
    serves : (rs : List Range) → Keeps rs k → Serves rs m.number k
    serves rs same = record { same = same; from = low; upto = high }

    pub room_here : (g : Begun s w b i first back t k old) → HasRoom k.set u.length new
    room_here g =
        let h = c.fills g.rs g.first g.back g.old g.fits g.filling in
        room s w b i g.rs g.first g.back m h p (serves g.rs h.keeps) g.fits

    pub carries_on : (v : Tally) (new' : List ℕ) → Adds k.set (m.first.len + m.second.len) u v → new' ≡ entered u.length k.set m new → Carries s w b i k first back t old m.next.left m.next.dist v new'
    carries_on v new' a e = record {
      fewer = omega (arith, c.fewer, p.fewer);
      nearer = omega (arith, c.nearer, p.nearer);
      fills = λ rs f h o fits g.
          let x = c.fills rs f h o fits g in
          fills_on s w b i rs f h m x p (serves rs x.keeps) fits a.many e;
      counts = λ rs f h g.
          let x = c.counts rs f h g in
          counts_on s w b i rs f h x p (serves rs x.keeps) a;
    }

    -- the set isn't empty: an entry more; its bytes are those that were read
    pub follows_on : (new' : List ℕ) (before : ℕ) → (k.set ≡ 0 → ⊥) → u.bytes ≡ before + (back - dist) → new' ≡ entered u.length k.set m new
        → Carries s w b i k first back t old m.next.left m.next.dist (record { length = u.length + 1; bytes = before + (back - m.next.dist) }) new'
    follows_on new' before some e q =
        let z : eqb k.set 0 ≡ false = ne_eqb k.set 0 some in
        let sum : before + (back - m.next.dist) ≡ u.bytes + (m.first.len + m.second.len) = omega (arith, e, c.nearer, p.nearer) in
        carries_on (record { length = u.length + 1; bytes = before + (back - m.next.dist) }) new' (record { many = rw z refl; sum = sum ∙ rw z refl }) q

  -- the set is empty: the message is passed over
  passes_on : {left dist number size left' dist' : ℕ} {u : Tally} {new : List ℕ} → Carries s w b i k first back t old left dist u new → Turn s w b i left dist number size left' dist' → k.base ≤ number → number ≤ k.until → k.set ≡ 0
      → Carries s w b i k first back t old left' dist' u new
  passes_on {left} {dist} {number} {size} {left'} {dist'} {u} c p low high none = record {
    fewer = omega (arith, c.fewer, p.fewer);
    nearer = omega (arith, c.nearer, p.nearer);
    fills = λ rs f h o fits g.
        let x = c.fills rs f h o fits g in
        skips s w b i rs f h x p (record { same = x.keeps; from = low; upto = high }) none;
    counts = λ rs f h g.
        let x = c.counts rs f h g in
        counts_turn s w b i rs f h x p (record { same = x.keeps; from = low; upto = high }) (adds_none k.set size u none);
  }

-- where a listing that goes on stands
pub stands_there : (s : Shape) (w b : List ℕ) (i first back : ℕ) (t : Tally) (old : List ℕ) (k : Kept) {left dist : ℕ} {u : Tally} {new : List ℕ} → Begun s w b i first back t k old → Carries s w b i k first back t old left dist u new → PositionAt s w b i left dist
stands_there s w b i first back t old k g c = (c.fills g.rs g.first g.back g.old g.fits g.filling).stands

-- ---- passing over

module _ (s : Shape) (w b : List ℕ) (i first back : ℕ) (k : Kept) where
  pub over_on : {left dist number size left' dist' : ℕ} → PassesOver s w b i k first back left dist → Turn s w b i left dist number size left' dist' → k.base ≤ number → number ≤ k.until → k.set ≡ 0
      → PassesOver s w b i k first back left' dist'
  over_on g p low high none = record { stands = p.stands; carries = λ t l. passes_on s w b i first back t l k (g.carries t l) p low high none }

-- ---- the listing

-- no range holds a number below the lowest first, so messages from there on are all that can be listed
none_below : (rs : List Range) (n : ℕ) → n < lowest_of rs → lies_in_some rs n ≡ false
none_below [] n less = refl
none_below (r ∷ rs) n less =
    let f : leb r.first n ≡ false = lt-leb r.first n (omega (arith, less)) in
    rw f (none_below rs n (omega (arith, less)))

pub from_lowest : (rs : List Range) (ms : List Msg) (low : ℕ) → low ≡ lowest_of rs → listed rs (numbered_from low ms) ≡ listed rs ms
from_lowest rs [] low e = refl
from_lowest rs (m ∷ ms) low e = go (leb low m.num) refl (from_lowest rs ms low e)
  where
    go : (c : Bool) → leb low m.num ≡ c → listed rs (numbered_from low ms) ≡ listed rs ms → listed rs (numbered_from low (m ∷ ms)) ≡ listed rs (m ∷ ms)
    go true t ih = rw t (ap (λ (l : List Msg). cond (lies_in_some rs m.num) (m ∷ l) l) ih)
    go false t ih =
        let f : lies_in_some rs m.num ≡ false = none_below rs m.num (subst (λ (k : ℕ). m.num < k) e (leb-false low m.num t)) in
        rw (t, f) ih

-- ranges that are some have a lowest first from 1 on
pub lowest_one : (rs : List Range) → are_ranges rs ≡ true → 1 ≤ lowest_of rs
lowest_one [] h = omega arith
lowest_one (r ∷ rs) h =
    let a = and_parts (is_range r) (are_ranges rs) h in
    omega (arith, leb-true 1 r.first (and_parts (leb 1 r.first) (eqb r.last 0 || leb r.first r.last) a.0).0, lowest_one rs a.1)

-- ---- whether there is room

listed_few : (rs : List Range) (ms : List Msg) → length (listed rs ms) ≤ length ms
listed_few rs [] = omega arith
listed_few rs (m ∷ ms) = go (lies_in_some rs m.num) (listed_few rs ms)
  where
    go : (c : Bool) → length (listed rs ms) ≤ length ms → length (cond c (m ∷ listed rs ms) (listed rs ms)) ≤ length (m ∷ ms)
    go true h = omega arith
    go false h = omega arith

few_taken : (left : ℕ) (l : List Msg) → length (reverse (take left l)) ≤ left
few_taken left l = omega (arith, length-reverse (take left l), length-take left l)

rest_few : (s : Shape) (w b : List ℕ) (i left : ℕ) → length (rest_at s w b i left) ≤ left
unfolding rest_at rest_in rest_of
rest_few s w b i left =
    few_taken left (newest_first s.bytes s.messages (next_out_of (slice (words_at s i) (place_words s) w)) (drop 14 (slice (words_at s i) (place_words s) w)) (drop 224 (slice (bytes_at s i) (place_bytes s) b)))

pub room_all : (s : Shape) (w b : List ℕ) (i left room : ℕ) (rs : List Range) → left ≤ room → true ≡ leb (length (listed rs (rest_at s w b i left))) room
room_all s w b i left room rs h = sym (le-leb (length (listed rs (rest_at s w b i left))) room (omega (arith, listed_few rs (rest_at s w b i left), rest_few s w b i left)))

no_zero : (n : ℕ) → suc n ≡ 0 → ⊥
no_zero n h = omega arith

module _ (s : Shape) (w b : List ℕ) (i : ℕ) (ranges entries : List ℕ) where
  abbrev rs : List Range
  rs = ranges_of ranges

  abbrev ms : List Msg
  ms = messages_at s w b i

  abbrev None : ℕ → Listed
  None n = record { refusal = n; length = 0; bytes = 0 }

  keeps_all : (r : Listed) (n : ℕ) → r ≡ None (suc n) → suc n ≡ cond (in_use s w b i && eqb (length ranges % 2) 0) (refusal_of rs ms (length entries / 6)) 25 → Lists s w b i ranges entries r entries
  keeps_all r n e h = subst (λ (x : Listed). Lists s w b i ranges entries x entries) (sym e) (record {
    refusal = h;
    many = λ z. absurd (no_zero n z);
    sum = λ z. absurd (no_zero n z);
    within = omega arith;
    written = λ z. absurd (no_zero n z);
    none_listed = λ _. (refl, refl);
    refused = λ _. refl;
    size = refl;
  })

  module _ {c : Bool} (is : c ≡ in_use s w b i) (used : c ≡ true) where
    module _ (even : length ranges % 2 ≡ 0) where
      whole : (in_use s w b i && eqb (length ranges % 2) 0) ≡ true
      whole =
          let f : eqb (length ranges % 2) 0 ≡ true = eq-eqb (length ranges % 2) 0 even in
          rw (sym is ∙ used, f) refl

      counted : length rs ≡ length ranges / 2
      counted = many ranges 0 0 0 (length ranges / 2)

      pub list_many : (r : Listed) → r ≡ None 35 → 64 < length ranges / 2 → Lists s w b i ranges entries r entries
      list_many r e h =
          let f : leb (length rs) 64 ≡ false = lt-leb (length rs) 64 (omega (arith, counted)) in
          keeps_all r 34 e (rw (whole, f) refl)

      module _ {d : Bool} {low left dist : ℕ} {y : Bool} (few : length ranges / 2 ≤ 64) (a : d ≡ are_ranges rs) (ranges-so : d ≡ true) (l : low ≡ lowest_of rs) (f : FromAt s w b i low left dist)
          (y-so : y ≡ leb (length (listed rs (rest_at s w b i left))) (length entries / 6)) where
        all : listed rs (rest_at s w b i left) ≡ listed rs ms
        all = ap (listed rs) f.is ∙ from_lowest rs ms low l

        good : leb (length rs) 64 ≡ true
        good = le-leb (length rs) 64 (omega (arith, counted))

        room_so : leb (length (listed rs ms)) (length entries / 6) ≡ y
        room_so = ap (λ (x : List Msg). leb (length x) (length entries / 6)) (sym all) ∙ sym y-so

        pub list_short : (r : Listed) → r ≡ None 36 → y ≡ false → Lists s w b i ranges entries r entries
        list_short r e h = keeps_all r 35 e (rw (whole, good, sym a ∙ ranges-so, room_so ∙ h) refl)

        pub fits : y ≡ true → 6 * length (listed rs (rest_at s w b i left)) ≤ length entries
        fits h =
            let g : length (listed rs (rest_at s w b i left)) ≤ length entries / 6 = leb-true _ _ (sym y-so ∙ h) in
            omega arith

        pub list_done : {t : Tally} (new : List ℕ) → y ≡ true → dist ≤ s.bytes → Fills rs b (rest_at s w b i left) dist entries t new
            → Lists s w b i ranges entries (record { refusal = 0; length = t.length; bytes = t.bytes }) new
        list_done {t} new h room z =
            let e = z.written in
            let n = z.counts in
            let x : length new ≡ length (words_of e.entries ++ drop (6 * length e.entries) entries) = ap length e.words in
            let v : length (map (served_at b) e.entries) ≡ length (served rs (rest_at s w b i left)) = ap length e.are in
            let long : length new ≡ length entries = omega (arith, x, v, fits h, length-append (words_of e.entries) (drop (6 * length e.entries) entries), words_many e.entries, length-drop (6 * length e.entries) entries, length-map e.entries (served_at b), length-map (listed rs (rest_at s w b i left)) (serve rs)) in
            record {
              refusal = rw (whole, good, sym a ∙ ranges-so, room_so ∙ h) refl;
              many = λ _. n.many ∙ ap length all;
              sum = λ _. n.sum ∙ ap stored_bytes all;
              within = omega (arith, n.within);
              written = λ _. record { entries = e.entries; are = e.are ∙ ap (map (serve rs)) all; inside = e.inside; words = e.words };
              none_listed = λ q. absurd (q refl);
              refused = λ q. absurd (q refl);
              size = long;
            }

-- what is still to be read is at most C bytes
pub within_C : (s : Shape) (w b : List ℕ) (i left dist : ℕ) → PositionAt s w b i left dist → dist ≤ s.bytes
unfolding PositionAt PositionIn
within_C s w b i left dist p = p.room
