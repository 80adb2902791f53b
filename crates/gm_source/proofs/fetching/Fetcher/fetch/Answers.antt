use Rattle.std.proofs.Common.{List, length, sym, ap, subst, ◌∙◌, rules, arith}
use Rattle.std.specs.Prelude.{All}
use Rattle.gm_base.specs.declared.edge.Edge.{Edge}
use Rattle.gm_label.specs.Labels.{label_of}
use Rattle.gm_source.specs.declared.fetching.FetchError.TheVariants.{Fault, Changed}
use Rattle.gm_source.specs.Fetches.{Differs, LiesInChunk}
use Rattle.gm_source.proofs.Fetched.{whole, none_found, none_is_some, fault_of, err_is}
use Rattle.gm_source.proofs.fetching.Fetcher.fetch.Goals as goal

pub returns-in_err-edge : goal.returns-in_err-edge
returns-in_err-edge g c = record {
  ok = search rules;
  from = search rules;
  told = search rules;
  calm = λ bytes calm tells failed.
      let is = fault_of c.in_err-edge.field-0.0 (err_is c.from_residual.result _ Fault failed c.from_residual.ensures.1) in
      c.in_err-edge.ensures.calm bytes calm tells cc;
  changed = search rules;
  unchanged = search rules;
  cause = search rules;
  read = search rules;
  frame = search rules;
}

pub returns-in-Some : goal.returns-in-Some
returns-in-Some g c = record {
  ok = tt;
  from = tt;
  told = λ bytes tells. tt;
  changed = search rules;
  unchanged = λ bytes found tells is. none_is_some _ _ (c.in_ok-edge.ensures.told bytes tells).none c.in-Some.is;
  cause = search rules;
  calm = search rules;
  read = search rules;
  frame = search rules;
}

pub check_label-requires-clause-few : goal.check_label-requires-clause-few
check_label-requires-clause-few g c =
    let all = whole (g.D.Depot.state c.args.depot.now).files c.args.name.now c.args.cat.now c.args.chunk c.read_chunk.new.edges.items c.in_ok-edge.field-0
    c.in_default.is c.in_ok-edge.ensures.reads in
    let same = ap (λ (edges : List Edge). length edges) c.as_slice-edges.ensures.value in
    let place = ap (λ p. p.length) c.chunk-first.ensures.value in
    omega (arith, all.count, c.chunk-first.ensures.short)

pub check_label-requires-clause-placed : goal.check_label-requires-clause-placed
check_label-requires-clause-placed g c =
    let all = whole (g.D.Depot.state c.args.depot.now).files c.args.name.now c.args.cat.now c.args.chunk c.read_chunk.new.edges.items c.in_ok-edge.field-0
    c.in_default.is c.in_ok-edge.ensures.reads in
    subst (λ (edges : List Edge). All (LiesInChunk c.args.cat.now c.args.chunk) edges) (sym c.as_slice-edges.ensures.value) all.placed

pub returns-in_err-check_label : goal.returns-in_err-check_label
returns-in_err-check_label g c = record {
  ok = search rules;
  from = search rules;
  told = search rules;
  changed = search rules;
  unchanged = λ bytes found tells is.
      let files = (g.D.Depot.state c.args.depot.now).files in
      let all = whole files c.args.name.now c.args.cat.now c.args.chunk c.read_chunk.new.edges.items c.in_ok-edge.field-0 c.in_default.is
      c.in_ok-edge.ensures.reads in
      let error = err_is c.from_residual-in_err-check_label.result _ (Changed found) is c.from_residual-in_err-check_label.ensures.1 in
      none_found files c.args.name.now bytes c.args.cat.now c.args.chunk c.read_chunk.new.edges.items c.in_ok-edge.field-0 found all
      (c.in_ok-edge.ensures.told bytes tells)
      (subst (λ (edges : List Edge). Differs c.args.cat.now c.args.chunk edges found) c.as_slice-edges.ensures.value (c.in_err-check_label.ensures.changed found cc));
  cause = search rules;
  calm = search rules;
  read = search rules;
  frame = search rules;
}

pub returns : goal.returns
returns g c =
    let all = whole (g.D.Depot.state c.args.depot.now).files c.args.name.now c.args.cat.now c.args.chunk c.read_chunk.new.edges.items c.in_ok-edge.field-0
    c.in_default.is c.in_ok-edge.ensures.reads in
    let same = c.from_vec.ensures ∙ (λ i. (c.replace-edges.ensures.value i).items) in
    record {
      ok = record {
        number = cc;
        count = ap (λ (edges : List Edge). length edges) same ∙ all.count;
        placed = subst (λ (edges : List Edge). All (LiesInChunk c.args.cat.now c.args.chunk) edges) (sym same) all.placed;
        label = ap (λ (edges : List Edge). label_of edges) (same ∙ sym c.as_slice-edges.ensures.value) ∙ c.in_ok-check_label.ensures.ok;
      };
      from = search rules;
      changed = search rules;
      unchanged = search rules;
      told = λ bytes tells. same ∙ (c.in_ok-edge.ensures.told bytes tells).base;
      cause = search rules;
      calm = search rules;
      read = search rules;
      frame = search rules;
    }
