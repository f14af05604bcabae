use Rattle.std.proofs.Common.{Err, sym, ap, ◌∙◌, arith}
use Rattle.fault.specs.declared.Reason.TheVariants.{BadEntry}
use Rattle.fault.specs.Refusals.{at}
use Rattle.layout.specs.Fields.{byte_at}
use Rattle.layout.proofs.Reading.{name_at_next}
use Rattle.sheet.specs.Fields.{cut_fault, words_in}
use Rattle.sheet.proofs.Judged.{name_word, name_read, name_right}
use Rattle.fault.proofs.Refusals.{accepted}
use Rattle.sheet.proofs.survey.name_entry.Goals as goal

pub returns-then-not-is_new_name-clause-judged : goal.returns-then-not-is_new_name-clause-judged
returns-then-not-is_new_name-clause-judged c =
    let bytes = c.args.reader.now.bytes.now in
    let o = c.args.reader.now.place in
    let i = c.args.i in
    let size = (accepted (cut_fault bytes o 1) (byte_at bytes o) _ c.in_ok-size.ensures.value).1 in
    let read = name_read bytes c.byte.new.self.bytes.now c.in_ok-word.word.now i o c.in_ok-size.size c.byte.new.self.place c.from.result c.requires.here size c.in_ok-size.ensures.moved.bytes c.in_ok-size.ensures.moved.place c.from.ensures c.in_ok-word.ensures.field in
    let right = name_right bytes c.bytes.result.now c.in_ok-word.word.now (words_in c.first-earlier.result.count c.first-earlier.result.bytes.now) i (c.bytes.ensures ∙ c.in_ok-word.ensures.moved.bytes ∙ c.in_ok-size.ensures.moved.bytes) c.first-earlier.ensures read.1 in
    let judged = name_word bytes i (omega (arith, size, ap (byte_at bytes) c.requires.here)) (omega (arith, size, ap (byte_at bytes) c.requires.here)) read.0 in
    rw (judged, sym right ∙ sym c.is_new_name.ensures ∙ c.if-not-is_new_name.true) (ap Err (c.at-then-not-is_new_name.ensures ∙ ap (at BadEntry) (c.place-place.ensures ∙ c.requires.here)))

pub returns-clause-judged : goal.returns-clause-judged
returns-clause-judged c =
    let bytes = c.args.reader.now.bytes.now in
    let o = c.args.reader.now.place in
    let i = c.args.i in
    let size = (accepted (cut_fault bytes o 1) (byte_at bytes o) _ c.in_ok-size.ensures.value).1 in
    let read = name_read bytes c.byte.new.self.bytes.now c.in_ok-word.word.now i o c.in_ok-size.size c.byte.new.self.place c.from.result c.requires.here size c.in_ok-size.ensures.moved.bytes c.in_ok-size.ensures.moved.place c.from.ensures c.in_ok-word.ensures.field in
    let right = name_right bytes c.bytes.result.now c.in_ok-word.word.now (words_in c.first-earlier.result.count c.first-earlier.result.bytes.now) i (c.bytes.ensures ∙ c.in_ok-word.ensures.moved.bytes ∙ c.in_ok-size.ensures.moved.bytes) c.first-earlier.ensures read.1 in
    let judged = name_word bytes i (omega (arith, size, ap (byte_at bytes) c.requires.here)) (omega (arith, size, ap (byte_at bytes) c.requires.here)) read.0 in
    rw (judged, sym right ∙ sym c.is_new_name.ensures ∙ c.if-not-is_new_name.false)

pub returns-clause-moved : goal.returns-clause-moved
returns-clause-moved c =
    let bytes = c.args.reader.now.bytes.now in
    let o = c.args.reader.now.place in
    let size = (accepted (cut_fault bytes o 1) (byte_at bytes o) _ c.in_ok-size.ensures.value).1 in
    record {
      bytes = c.in_ok-word.ensures.moved.bytes ∙ c.in_ok-size.ensures.moved.bytes;
      place = omega (arith, size, c.requires.here, name_at_next bytes c.args.i, c.in_ok-size.ensures.moved.place, c.in_ok-word.ensures.moved.place, c.from.ensures, ap (byte_at bytes) c.requires.here);
    }
