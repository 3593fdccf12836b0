-- A body that was read where it stands, behind its length, is the body that the definition reads; what stands in the bytes read stands in all. Assumes nothing.
use Prim.Native.Nat.{ℕ, zero, suc, ◌+◌, ◌≤◌}
use mathlib.Core.Path.{◌≡◌, refl, sym, ap, ap₂, ◌∙◌}
use mathlib.Core.Bool.{true, ◌&&◌, true≢false}
use mathlib.Core.List.{List, [], ◌∷◌, ◌++◌}
use native.Mathlib.Omega.{arith}
use borrow.Author.Tests.{leb-true, le-leb}
use lib.ListN.{length, take, drop, length-append, length-drop, take-append-drop}
use lib.Seq.{take-append-le}
use Rattle.base_laws.proofs.Lists.{drop_take, both}
use Rattle.base_laws.proofs.Runs.{run_items}
use Rattle.model_frame.specs.Frame.{hello, batch, bind, bound}
use Rattle.model_frame.specs.Parse.{Res, ok, bad, Parser, read_num, many, forget, collect}
use Rattle.model_frame.specs.Reading.{read_change, read_app_record, read_body}
use Rattle.model_frame.specs.Sizes.{sizes}
use Rattle.model_frame.proofs.Grow.{Grows, grow_num, grow_many, change_grows, record_grows}
use Rattle.frame_reader.specs.declared.Span.{Span}
use Rattle.frame_reader.specs.Answers.{span_of}
use Rattle.frame_op.specs.declared.Run.{Run}
use Rattle.frame_op.specs.Answers.{run_of}
use Rattle.frame_fields.specs.Answers.{part_of, summary_of}
use Rattle.frame_writer.specs.Encoding.{span_fits, is_ok, run_reads}
use Rattle.frame.specs.declared.Frame.{Frame}
use Rattle.frame.specs.Answers.{readable, Sized, Stands}

pub body_within : (version : ℕ) (b : List ℕ) (n : ℕ) {w : List ℕ} → w ≡ take (4 + n) b → read_body version (drop 4 w) ≡ read_body version (take n (drop 4 b))
body_within version b n e = rw (e, drop_take 4 n b)

-- ---- what stands in the first n bytes stands in all of them, and is the same

record Behind (at n : ℕ) (b : List ℕ) : Type 0 where
  rest : List ℕ
  split : drop at b ≡ drop at (take n b) ++ rest

behind : (at n : ℕ) (b : List ℕ) → Behind at n b
behind zero n b = record { rest = drop n b; split = sym (take-append-drop n b) }
behind (suc at) zero b = record { rest = drop (suc at) b; split = refl }
behind (suc at) (suc n) [] = record { rest = []; split = refl }
behind (suc at) (suc n) (x ∷ xs) = record { rest = (behind at n xs).rest; split = (behind at n xs).split }

-- a span
record SpanAgain (n : ℕ) (b : List ℕ) (p : Span) : Type 0 where
  fits : span_fits b p ≡ true
  same : span_of b p ≡ span_of (take n b) p

span_again : (n : ℕ) (b : List ℕ) (p : Span) → span_fits (take n b) p ≡ true → SpanAgain n b p
span_again n b p e =
    let t = behind p.at n b in
    let h : p.at + p.len ≤ length (take n b) = leb-true (p.at + p.len) (length (take n b)) e in
    let all : length (take n b) + length (drop n b) ≡ length b = sym (length-append (take n b) (drop n b)) ∙ ap length (take-append-drop n b) in
    let here : p.len ≤ length (drop p.at (take n b)) = omega (arith, length-drop p.at (take n b)) in
    record {
      fits = le-leb (p.at + p.len) (length b) (omega arith);
      same = ap (take p.len) t.split ∙ take-append-le p.len (drop p.at (take n b)) t.rest here;
    }

-- a run
record RunAgain {A : Type 0} (p : Parser A) (n : ℕ) (b : List ℕ) (r : Run) : Type 0 where
  reads : run_reads p b r ≡ true
  same : run_of p b r ≡ run_of p (take n b) r

items_are : {A : Type 0} (p : Parser A) (k : ℕ) (s : List ℕ) {xs : List A} {s' : List ℕ} → many k p s ≡ ok xs s' → collect k p s ≡ xs
items_are p k s {xs} {s'} e =
    let same : ok (collect k p s) s' ≡ ok xs s' = run_items p k s (sym (ap forget e)) ∙ e in
    cc

run_again : {A : Type 0} {p : Parser A} → Grows p → (n : ℕ) (b : List ℕ) (r : Run) → run_reads p (take n b) r ≡ true → RunAgain p n b r
run_again {A = A} {p = p} g n b r = go (many r.count p (drop r.at (take n b))) refl
  where
    go : (m : Res (List A)) → many r.count p (drop r.at (take n b)) ≡ m → is_ok m ≡ true → RunAgain p n b r
    go (ok xs s) e h =
        let t = behind r.at n b in
        let grown : many r.count p (drop r.at b) ≡ ok xs (s ++ t.rest) =
        ap (many r.count p) t.split ∙ (grow_many g r.count).grows (drop r.at (take n b)) t.rest e in
        record { reads = ap is_ok grown; same = items_are p r.count (drop r.at b) grown ∙ sym (items_are p r.count (drop r.at (take n b)) e) }
    go (bad x) e h = absurd (true≢false (sym h))

-- a frame
pub stands : (version n : ℕ) (b : List ℕ) (f : Frame) → (readable version (take n b) f ≡ true) × Sized version (take n b) f → Stands version b f n
stands version n b (Frame.Hello v e node ks) (h, z) =
    let x = both (span_fits (take n b) node) (run_reads (read_num 2) (take n b) ks) h in
    let p = span_again n b node x.0 in
    let q = run_again (grow_num 2) n b ks x.1 in
    record { own = h; all = rw (p.fits, q.reads); same = ap₂ (λ (s t : List ℕ). hello v e.0 s t) p.same q.same; sized = tt }
stands version n b (Frame.Welcome e i) (h, z) = record { own = h; all = refl; same = refl; sized = tt }
stands version n b (Frame.Bind hd e lag k) (h, z) =
    let x = both ((span_fits (take n b) k.begin_string && span_fits (take n b) k.sender_comp_id) && span_fits (take n b) k.target_comp_id) (span_fits (take n b) k.key_suffix) h in
    let y = both (span_fits (take n b) k.begin_string && span_fits (take n b) k.sender_comp_id) (span_fits (take n b) k.target_comp_id) x.0 in
    let w = both (span_fits (take n b) k.begin_string) (span_fits (take n b) k.sender_comp_id) y.0 in
    let p = span_again n b k.begin_string w.0 in
    let q = span_again n b k.sender_comp_id w.1 in
    let r = span_again n b k.target_comp_id y.1 in
    let s = span_again n b k.key_suffix x.1 in
    record { own = h; all = rw (p.fits, q.fits, r.fits, s.fits); same = λ j. bind hd e.0 lag (record { begin = p.same j; sender = q.same j; target = r.same j; suffix = s.same j }); sized = tt }
stands version n b (Frame.Bound hd m) (h, z) =
    let x = both (span_fits (take n b) m.created_at) (span_fits (take n b) m.marks) h in
    let p = span_again n b m.created_at x.0 in
    let q = span_again n b m.marks x.1 in
    let s = summary_of b m in
    record { own = h; all = rw (p.fits, q.fits); same = λ j. bound hd (record { next_out = s.next_out; next_in = s.next_in; in_flight = s.in_flight; stamp_text = p.same j; marks_text = q.same j; last_outgoing = s.last_outgoing }); sized = tt }
stands version n b (Frame.Batch x) (h, z) =
    let y = both (run_reads (read_change version) (take n b) x.ops) (run_reads read_app_record (take n b) x.app_records) h in
    let p = run_again (change_grows version) n b x.ops y.0 in
    let q = run_again record_grows n b x.app_records y.1 in
    record { own = h; all = rw (p.reads, q.reads); same = λ j. batch x.handle x.epoch.0 x.commit_no.0 (part_of x.part) (p.same j) (q.same j); sized = z ∙ ap sizes (sym p.same) }
stands version n b (Frame.Ack hd k) (h, z) = record { own = h; all = refl; same = refl; sized = tt }
stands version n b (Frame.Nack hd r) (h, z) = record { own = h; all = refl; same = refl; sized = tt }
stands version n b (Frame.Checked hd e i) (h, z) = record { own = h; all = refl; same = refl; sized = tt }
