use Rattle.std.proofs.Common.{◌++◌, List, sym, ap, ◌∙◌}
use Rattle.gm_base.specs.declared.edge.Edge.{Edge}
use Rattle.gm_changes.specs.Kept.{uncut_edges, kept_adds}
use Rattle.gm_changes.specs.KeptRules.{in_one_walk}
use Rattle.gm_changes.proofs.applying.apply_cuts.Goals as goal

pub returns-clause-ok : goal.returns-clause-ok
returns-clause-ok c =
    let changes = c.args.changes.now in
    let left = c.drop_cut.ensures.items changes c.requires ∙ ap (λ (edges : List Edge). uncut_edges changes edges) c.reserve_exact.ensures.items in
    c.push_kept.ensures ∙ ap (λ (edges : List Edge). edges ++ kept_adds changes) left ∙ sym (in_one_walk changes c.args.edges.now.items)
