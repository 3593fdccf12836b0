-- What the exported functions return, from what the functions that they call promise. Assumes nothing.
use mathlib.Core.Path.{◌≡◌, sym, ap, subst, ◌∙◌}
use mathlib.Core.Bool.{cond}
use mathlib.Core.List.{List, []}
use Prim.Native.Nat.{ℕ}
use borrow.Author.Tests.{eq-eqb}
use lib.Dec.{T, ltb}
use lib.ListN.{length, take}
use lib.Seq.{length-take-le}
use Rattle.std.specs.Prelude.{Ok, Some, true}
use Rattle.base_laws.proofs.Little.{write_none}
use Rattle.model_text.specs.Version.{is_version}
use Rattle.model_frame.specs.Bytes.{is_bytes}
use Rattle.model_frame.specs.Frame.{Frame}
use Rattle.model_frame.specs.Frame as the_frame
use Rattle.model_frame.specs.Reading.{decode}
use Rattle.model_frame.specs.Writing.{encode, WriteOutcome, wrote, refused, write_outcome, write_answer, area_after}
use Rattle.frame.specs.declared.Frame as code-Frame
use Rattle.frame.specs.Answers.{frame_of, reading_of, frame_in, Stands}
use Rattle.frame.proofs.Again as twice
use Rattle.frame.proofs.Again.{read_again}
use Rattle.standby_state.specs.declared.Answer.{Answer}
use Rattle.standby_reply.specs.Replies.{frame_for}
use Rattle.c_code.specs.Codes.{done_code}
use Rattle.c_exports.specs.Returned.{written_code, taken_code}
use Rattle.c_exports.specs.Exports.{Again, rewritten, Rewrites, told, TellsAnswer}

-- what was read is written again, byte for byte
pub again_whole :
    (v : ℕ) (w : List ℕ) {f : code-Frame.Frame} {used : ℕ} {out out' : List ℕ} {r : ℕ} → reading_of v w (Ok (Some (f, used))) ≡ decode v w → T (is_bytes w) → Stands v w f used
    → Again used (write_outcome v (frame_in v w f) (length out)) out out' r → Rewrites (decode v w) out out' r
again_whole v w {f} {used} {out} {out'} {r} read bytes stands h =
    let g : Frame = frame_of v (take used w) f in
    let a : twice.Again v w f g used = read_again v w bytes (sym read) read stands in
    let size : length (encode g) ≡ used = ap length a.bytes ∙ length-take-le used w a.within in
    let only : write_outcome v (frame_in v w f) (length out) ≡ rewritten g (length out) = a.result (length out) ∙ ap (λ (k : ℕ). cond (ltb (length out) k) (refused 9) (wrote (encode g))) (sym size) in
    subst (λ (y : the_frame.Decoded). Rewrites y out out' r) read (record {
      answer = h.answer ∙ ap (λ (o : WriteOutcome). taken_code used (write_answer o)) only;
      area = h.area ∙ ap (λ (o : WriteOutcome). area_after o out) only;
    })

-- done is no bytes
pub tells_nothing : (v : ℕ) (b : List ℕ) (a : Answer) (out : List ℕ) {r : ℕ} → is_version v ≡ true → a.refusal ≡ 0 → a.kind ≡ 0 → r ≡ done_code 0 → TellsAnswer v b a out out r
tells_nothing v b a out s z k q =
    let e : told v b a (length out) ≡ wrote [] =
    (λ j. cond (s j) (cond (eq-eqb a.refusal 0 z j) (cond (eq-eqb a.kind 0 k j) (wrote []) (write_outcome v (frame_for b a) (length out))) (refused a.refusal)) (refused 11)) in
    record {
      answer = q ∙ ap (λ (x : WriteOutcome). written_code (write_answer x)) (sym e);
      area = sym (write_none out 0) ∙ ap (λ (x : WriteOutcome). area_after x out) (sym e);
    }
