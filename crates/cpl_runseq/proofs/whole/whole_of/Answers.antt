use Rattle.std.proofs.Common.{◌≡◌, ◌-◌, List, Ok, sym, ap, ◌∙◌, arith, w64}
use Rattle.std.proofs.lemmas.Int.{to_z_pos}
use Rattle.cpl_runseq.specs.Views.{reading_view}
use Rattle.cpl_runseq.specs.Whole.{durations_check, span_of, top_loops, total_duration}
use Rattle.cpl_runseq.specs.declared.read_loop.ReadLoop.{ReadLoop}
use Rattle.cpl_runseq.proofs.LengthFacts.{full_length-is}
use Rattle.cpl_runseq.proofs.WholeFacts.{lasts-most, tops_sound}
use Rattle.cpl_runseq.proofs.whole.whole_of.Goals as goal

pub top_loops-requires : goal.top_loops-requires
top_loops-requires c =
    let loops = c.args.state.loops.items in
    let length = c.in_ok-length.length in
    let last : durations_check c.args.span loops ≡ Ok tt = ap (durations_check c.args.span) (sym c.as_slice.ensures.value) ∙ sym c.durations_check.ensures ∙ c.in_ok-durations_check.was in
    let spans : span_of c.args.span c.args.room loops ≡ Ok length = ap (span_of c.args.span c.args.room) (sym c.as_slice-2.ensures.value) ∙ sym c.span_of.ensures ∙ c.in_ok-length.was in
    let full = full_length-is c.args.span c.args.room loops length last spans in
    let rest : c.rest_of-rest.result ≡ length - total_duration loops = c.rest_of-rest.ensures ∙ ap (λ (ls : List ReadLoop). length - total_duration ls) c.as_slice-3.ensures.value in
    rw rest (omega arith)

pub new-requires : goal.new-requires
new-requires c =
    let loops = c.args.state.loops.items in
    let length = c.in_ok-length.length in
    let last : durations_check c.args.span loops ≡ Ok tt = ap (durations_check c.args.span) (sym c.as_slice.ensures.value) ∙ sym c.durations_check.ensures ∙ c.in_ok-durations_check.was in
    let spans : span_of c.args.span c.args.room loops ≡ Ok length = ap (span_of c.args.span c.args.room) (sym c.as_slice-2.ensures.value) ∙ sym c.span_of.ensures ∙ c.in_ok-length.was in
    let rest : c.rest_of-rest.result ≡ length - total_duration loops = c.rest_of-rest.ensures ∙ ap (λ (ls : List ReadLoop). length - total_duration ls) c.as_slice-3.ensures.value in
    let tops : c.in_ok-loops.loops.items ≡ top_loops 0 (length - total_duration loops) loops = c.in_ok-loops.ensures ∙ ap (λ n. top_loops 0 n loops) rest in
    let most = lasts-most c.args.span c.args.room loops length c.requires.span c.requires.room spans in
    let whole = tops_sound (reading_view c.args.state) c.args.span c.args.room length c.requires.fits c.requires.span c.requires.room last spans in
    let span = to_z_pos w64 length (omega arith) in
    rw (c.into_lines.ensures.value, tops, span) whole
