use Rattle.std.proofs.Common.{◌≡◌, ◌++◌, take, arith}
use Rattle.std.proofs.lemmas.Grind.{common_steps}
use Rattle.gm_outside.specs.GrowthRules.{grew_by_prefix-told}
use Rattle.gm_fakes.proofs.mem_sink.MemSinkSink.write.Goals as goal

pub returns-then-is_some-clause-grew_prefix : goal.returns-then-is_some-clause-grew_prefix
returns-then-is_some-clause-grew_prefix c =
    let added : c.extend_from_slice.new.self.items ≡ c.args.self.now.written ++ take c.min-most.result c.args.piece.now =
    grind (arith, common_steps) in
    grew_by_prefix-told c.min-most.result added
