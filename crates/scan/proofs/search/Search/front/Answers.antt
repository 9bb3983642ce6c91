use Rattle.std.proofs.Common.{length, arith, rules}
use Rattle.scan.proofs.Fitting.{front_reads}
use Rattle.scan.proofs.search.Search.front.Goals as goal

pub offset_bounds-self-from : goal.offset_bounds-self-from
offset_bounds-self-from g c = let h = front_reads (length c.args.self.now.constants.now) c.args.self.now.elements.now c.in-Compared.source c.in-Constant.from c.in-Constant.to _ c.args.self.now.fit c.args.self.now.some c.in-Compared.is c.in-Constant.is in omega arith

pub slice_bounds-first-count : goal.slice_bounds-first-count
slice_bounds-first-count g c = let h = front_reads (length c.args.self.now.constants.now) c.args.self.now.elements.now c.in-Compared.source c.in-Constant.from c.in-Constant.to _ c.args.self.now.fit c.args.self.now.some c.in-Compared.is c.in-Constant.is in omega arith

pub slice_bounds-first-start : goal.slice_bounds-first-start
slice_bounds-first-start g c = let h = front_reads (length c.args.self.now.constants.now) c.args.self.now.elements.now c.in-Compared.source c.in-Constant.from c.in-Constant.to _ c.args.self.now.fit c.args.self.now.some c.in-Compared.is c.in-Constant.is in search rules

pub slice_bounds-first-end : goal.slice_bounds-first-end
slice_bounds-first-end g c = let h = front_reads (length c.args.self.now.constants.now) c.args.self.now.elements.now c.in-Compared.source c.in-Constant.from c.in-Constant.to _ c.args.self.now.fit c.args.self.now.some c.in-Compared.is c.in-Constant.is in search rules
