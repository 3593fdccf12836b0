use mathlib.Core.Path.{subst}
use Rattle.std.proofs.Common.{arith, rules, ℕ, Fits, w64}
use Rattle.model_text.specs.Hex.{refusal_text}
use Rattle.base_hex.specs.Lines.{Puts}
use Rattle.frames_line.proofs.Laws.{bad_line, some_line, takes_any}
use Rattle.frames_line.proofs.answer_in.Goals as goal

pub returns-in-Some : goal.returns-in-Some
returns-in-Some c =
    some_line c.args.line.now c.args.counters c.args.row c.args.words.now c.args.bytes.now c.args.holds.now c.args.out.now
    (record { epoch = (let e : Fits w64 c.args.counters.epoch.0 = search rules in e.fits); words = λ i. (c.slice_known-1.given i).fits; bytes = λ i. (c.slice_known-2-1.given i).fits })
    c.hear-heard.ensures c.in-Some.is (takes_any c.hear-heard.auto.buf c.requires.in_bounds) (rw c.of_byte-protocol.ensures at c.put_answer.ensures)

pub returns-in-None : goal.returns-in-None
returns-in-None c =
    let told : Puts (refusal_text 26) c.args.out.now c.put_refusal.new.out c.put_refusal.result =
    subst (λ (x : ℕ). Puts (refusal_text x) c.args.out.now c.put_refusal.new.out c.put_refusal.result) c.number.ensures c.put_refusal.ensures in
    bad_line c.args.line.now c.args.counters c.args.row c.args.words.now c.args.bytes.now c.args.holds.now c.args.out.now c.hear-heard.ensures c.in-None.is told
