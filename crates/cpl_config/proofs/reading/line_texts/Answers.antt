use Rattle.std.proofs.Common.{◌<◌, length, ap, arith}
use Rattle.cpl_text.specs.Spans.{Stands, part_in}
use Rattle.cpl_text.proofs.LinesFacts.{All-from_map}
use Rattle.cpl_config.proofs.reading.line_texts.Goals as goal

-- each word of the line stands in the text
pub word_text-requires : goal.word_text-requires
word_text-requires c =
    let bytes = c.args.bytes.now in
    let words = c.args.line.now.words.items in
    let all = All-from_map (part_in bytes) (Stands bytes) words c.requires.words_stand in
    let same = c.deref-word-items.ensures.value in
    let inside : c.loop-word.word-index < length words = omega (arith, ap length same) in
    rw same (all c.loop-word.word-index _ inside)
