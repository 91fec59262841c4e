use Rattle.std.proofs.Common.{rules, ◌≡◌}
use Rattle.irig_lines.specs.Words.{words_of}
use Rattle.irig_lines.specs.declared.keyword.Keyword.TheVariants as word
use Rattle.irig_lines.proofs.KnownWords.{refused}
use Rattle.irig_lines.proofs.parsing.asked.Goals as goal

pub returns-in-Shift : goal.returns-in-Shift
returns-in-Shift c =
    let e : c.args.word ≡ word.Shift = search rules in
    refused word.Shift c.args.word c.args.front.now (words_of c.args.arguments.now) _ e c.shift.ensures

pub returns-in-Split : goal.returns-in-Split
returns-in-Split c =
    let e : c.args.word ≡ word.Split = search rules in
    refused word.Split c.args.word c.args.front.now (words_of c.args.arguments.now) _ e c.split.ensures

pub returns-in-Force : goal.returns-in-Force
returns-in-Force c =
    let e : c.args.word ≡ word.Force = search rules in
    refused word.Force c.args.word c.args.front.now (words_of c.args.arguments.now) _ e c.force.ensures

pub returns-in-Regen : goal.returns-in-Regen
returns-in-Regen c =
    let e : c.args.word ≡ word.Regen = search rules in
    refused word.Regen c.args.word c.args.front.now (words_of c.args.arguments.now) _ e c.regen.ensures

pub returns-in-Format : goal.returns-in-Format
returns-in-Format c =
    let e : c.args.word ≡ word.Format = search rules in
    refused word.Format c.args.word c.args.front.now (words_of c.args.arguments.now) _ e c.format.ensures

pub returns-in-Mark : goal.returns-in-Mark
returns-in-Mark c =
    let e : c.args.word ≡ word.Mark = search rules in
    refused word.Mark c.args.word c.args.front.now (words_of c.args.arguments.now) _ e c.set_mark.ensures

pub returns-in-Unmark : goal.returns-in-Unmark
returns-in-Unmark c =
    let e : c.args.word ≡ word.Unmark = search rules in
    refused word.Unmark c.args.word c.args.front.now (words_of c.args.arguments.now) _ e c.unmark.ensures

pub returns-in-Insert : goal.returns-in-Insert
returns-in-Insert c =
    let e : c.args.word ≡ word.Insert = search rules in
    refused word.Insert c.args.word c.args.front.now (words_of c.args.arguments.now) _ e c.insert.ensures

pub returns-in-Invert : goal.returns-in-Invert
returns-in-Invert c =
    let e : c.args.word ≡ word.Invert = search rules in
    refused word.Invert c.args.word c.args.front.now (words_of c.args.arguments.now) _ e c.invert.ensures

pub returns-in-Missing : goal.returns-in-Missing
returns-in-Missing c =
    let e : c.args.word ≡ word.Missing = search rules in
    refused word.Missing c.args.word c.args.front.now (words_of c.args.arguments.now) _ e c.show.ensures

pub returns-in-List : goal.returns-in-List
returns-in-List c =
    let e : c.args.word ≡ word.List = search rules in
    refused word.List c.args.word c.args.front.now (words_of c.args.arguments.now) _ e c.list.ensures

pub returns-in-Delete : goal.returns-in-Delete
returns-in-Delete c =
    let e : c.args.word ≡ word.Delete = search rules in
    refused word.Delete c.args.word c.args.front.now (words_of c.args.arguments.now) _ e c.delete.ensures

pub returns-in-Join : goal.returns-in-Join
returns-in-Join c =
    let e : c.args.word ≡ word.Join = search rules in
    refused word.Join c.args.word c.args.front.now (words_of c.args.arguments.now) _ e c.join.ensures
