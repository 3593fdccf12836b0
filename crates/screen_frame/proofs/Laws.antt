-- The changes of a batch one after the other, the column that says what a frame is, and the line's length. Assumes nothing.
use Rattle.model_text.specs.Version.{latest}
use Rattle.std.proofs.Common.{◌≡◌, ℕ, suc, ◌-◌, ◌<◌, ◌≤◌, true, false, leb, List, [], ◌∷◌, ◌++◌, length, take, replicate, refl, sym, ap, subst, ◌∙◌, arith, append-nil, append_assoc, length-append, length-take, take_all, take-take, map, le-leb}
use borrow.Author.Tests.{lt-leb}
use Rattle.model_frame.specs.Frame.{Change, Decoded}
use Rattle.model_frame.specs.Parse.{Res, ok, bad, collect, item_then}
use Rattle.model_frame.specs.Reading.{read_change}
use Rattle.model_screen.specs.Columns.{visible, shown, break_before, column_after, at_left, cut, flow}
use Rattle.model_screen.specs.FrameText.{change_words, changes_words, frame_parts, frame_line}
use Rattle.model_screen.proofs.Widths.{flow_short}
use Rattle.frame_reader.specs.declared.FrameError.{FrameError}
use Rattle.frame_reader.specs.declared.Reader.{Reader}
use Rattle.frame_reader.specs.Answers.{fault_of, rest}
use Rattle.frame_op.specs.declared.Op.{Op}
use Rattle.frame_op.specs.Answers.{op_of}
use Rattle.screen_text.specs.declared.text.Text.{Text}
use Rattle.screen_text.specs.Adding.{Has, Adds, Flows}
use Rattle.screen_text.proofs.Laws.{adds_on}
use Rattle.screen_frame.specs.Starts.{Starts}

-- ---- changes

-- so many changes are left where the reader stands
pub record Listed (x : Text) (src : List ℕ) (all : List Change) (left : ℕ) (r : Reader) (y : Text) : Type 0 where
  pub done : List ℕ
  pub adds : Adds x done y
  pub behind : done ++ changes_words (collect left (read_change latest) (rest r)) ≡ changes_words all
  pub same : r.buf.now ≡ src

pub one_more : {x y z : Text} {src : List ℕ} {all : List Change} {left : ℕ} {r s : Reader} (op : Op) → Listed x src all (suc left) r y → s.buf.now ≡ r.buf.now → ok (op_of r.buf.now op) (rest s) ≡ read_change latest (rest r) → Adds y (change_words (op_of src op)) z
    → Listed x src all left s z
unfolding changes_words collect
one_more {src = src} {left = left} {r = r} {s = s} op l o e a = record {
  done = l.done ++ change_words (op_of src op);
  adds = adds_on l.adds a;
  behind =
      let step : changes_words (item_then (ok (op_of r.buf.now op) (rest s)) (collect left (read_change latest))) ≡ changes_words (collect (suc left) (read_change latest) (rest r)) = ap (λ (q : Res Change). changes_words (item_then q (collect left (read_change latest)))) e in
      let words : change_words (op_of src op) ≡ change_words (op_of r.buf.now op) = ap (λ (b : List ℕ). change_words (op_of b op)) (sym l.same) in
      append_assoc l.done (change_words (op_of src op)) (changes_words (collect left (read_change latest) (rest s)))
      ∙ ap (λ (w : List ℕ). l.done ++ (w ++ changes_words (collect left (read_change latest) (rest s)))) words
      ∙ ap (λ (w : List ℕ). l.done ++ w) step ∙ l.behind;
  same = o ∙ l.same;
}

pub no_more : {x y : Text} {src : List ℕ} {all : List Change} {left : ℕ} {r : Reader} (e : FrameError) → Listed x src all (suc left) r y → bad (fault_of e) ≡ read_change latest (rest r) → Adds x (changes_words all) y
unfolding changes_words collect
no_more {x} {y} {left = left} {r = r} e l f =
    let none : [] ≡ changes_words (collect (suc left) (read_change latest) (rest r)) = ap (λ (q : Res Change). changes_words (item_then q (collect left (read_change latest)))) f in
    subst (λ (w : List ℕ). Adds x w y) (sym (append-nil l.done) ∙ ap (λ (w : List ℕ). l.done ++ w) none ∙ l.behind) l.adds

pub all_done : {x y : Text} {src : List ℕ} {all : List Change} {left : ℕ} {r : Reader} → Listed x src all left r y → left ≡ 0 → Adds x (changes_words all) y
unfolding changes_words collect
all_done {x} {y} {r = r} l z =
    subst (λ (w : List ℕ). Adds x w y) (sym (append-nil l.done) ∙ ap (λ (n : ℕ). l.done ++ changes_words (collect n (read_change latest) (rest r))) (sym z) ∙ l.behind) l.adds

-- ---- the beginning of a text

pub starts : {x : Text} {t : List ℕ} {most : ℕ} → Has x t → length x.out.now ≡ most → Starts most t x.out.now x.at
starts h e = record { size = rw (← e) h.at; is = rw (← e) h.is }

-- ---- what a frame is

pub flows_as : {x y : Text} {column next : ℕ} {p q : List ℕ} → Flows x column p y next → shown p ≡ shown q → Flows x column q y next
flows_as {x} {y} {column} f e = record {
  adds = subst (λ (w : List ℕ). Adds x (break_before column (length w) ++ w) y) e f.adds;
  column = f.column ∙ ap (λ (w : List ℕ). column_after column (length w)) e;
}

module _ (w area : List ℕ) {n : ℕ} (s : Starts 47 w area n) where
  pub short_what : n ≤ 46 → take n area ++ replicate (46 - n) 32 ≡ at_left 46 (cut 46 w)
  short_what h =
      let size : n ≡ length w = omega (arith, s.size, h) in
      let fits : leb (length w) 46 ≡ true = le-leb _ _ (omega (arith, size, h)) in
      let is : take n area ≡ w = s.is ∙ take_all 47 w (omega (arith, size, h)) in
      rw fits ((λ j. is j ++ replicate (46 - size j) 32))

  pub long_what : 46 < n → take (n - 3) area ++ (46 ∷ 46 ∷ []) ≡ at_left 46 (cut 46 w)
  long_what h =
      let kept : n - 3 ≡ 44 = omega (arith, s.size, h) in
      let long : 47 ≤ length w = omega (arith, s.size, h) in
      let past : leb (length w) 46 ≡ false = lt-leb _ _ (omega (arith, long)) in
      let same : take 44 area ≡ take 44 w = sym (take-take 44 n area (omega (arith, h))) ∙ ap (take 44) s.is ∙ take-take 44 47 w (omega arith) in
      let full : 46 - length (take 44 w ++ (46 ∷ 46 ∷ [])) ≡ 0 = omega (arith, length-append (take 44 w) (46 ∷ 46 ∷ []), length-take 44 w, long) in
      let none : replicate {A = ℕ} (46 - length (take 44 w ++ (46 ∷ 46 ∷ []))) 32 ≡ [] = rw full refl in
      rw (past, kept) (ap (λ (l : List ℕ). l ++ (46 ∷ 46 ∷ [])) same ∙ sym (append-nil (take 44 w ++ (46 ∷ 46 ∷ []))) ∙ ap (λ (l : List ℕ). (take 44 w ++ (46 ∷ 46 ∷ [])) ++ l) (sym none))

-- ---- the line

pub line_short : (n at refusal : ℕ) (d r : Decoded) → length (frame_line n at d refusal r) ≤ 400
unfolding frame_line
line_short n at refusal d r =
    let parts : List (List ℕ) = frame_parts n at d refusal r in
    omega (arith, length-append (flow 0 parts) [], flow_short 0 parts)

-- all of a text for which there is room
pub whole_there : {most n : ℕ} {t area : List ℕ} → Starts most t area n → length t ≤ most → take n area ≡ t
whole_there {most} {t = t} s h = s.is ∙ take_all most t h

-- a part is cut to its width at most once
pub shown_once : (w : List ℕ) → shown (take 77 w) ≡ shown w
shown_once w = ap (map visible) (take-take 77 77 w (omega arith))
