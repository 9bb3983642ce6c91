use Rattle.load.proofs.NameLoops.{table, names_pushed, names_on, names_all}
use Rattle.load.proofs.name.name_table.Goals as goal

pub loop-part-preserved : goal.loop-part-preserved
loop-part-preserved c =
    names_on c.args.naming.now.text.now c.args.naming.now.names.now c.loop-part.part-index _ (table c.loop-part.names c.loop-part.count) (table c.push-count.new.places c.push-count.result)
    c.name_of.result c.part_of.result.now c.loop-part-test.true c.loop-part.invariant
    (names_pushed c.loop-part.names c.push-count.new.places c.loop-part.count c.push-count.result c.name_of.result c.loop-part-test.array_long c.push-count.ensures.value c.push-count.ensures.places)
    c.name_of.ensures c.part_of.ensures

pub returns : goal.returns
returns c = names_all c.args.naming.now.text.now c.args.naming.now.names.now c.loop-part.part-index (table c.loop-part.names c.loop-part.count) c.loop-part-test.false c.loop-part.invariant
