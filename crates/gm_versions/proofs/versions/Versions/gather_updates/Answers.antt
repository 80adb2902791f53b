use Rattle.std.proofs.Common.{◌≡◌, Bool, ℕ, ◌-◌, ◌<◌, ◌≤◌, length, take, get_or, vec_len, refl, ◌++◌, List, All, ap, sym, ◌∙◌, append-nil, subst, arith}
use Rattle.std.specs.List.{filter}
use Rattle.std.proofs.lemmas.List.{drop_all, length-append, take-append-le}
use Rattle.gm_base.specs.Dimensions.{Dimensions}
use Rattle.std.proofs.lemmas.List.Elements.{All-get_or}
use Rattle.gm_changes.specs.declared.change.Change.{Change}
use Rattle.gm_label.specs.declared.chunk.Chunk.{Chunk}
use Rattle.gm_changes.specs.Concerns.{may_concern, possible_changes, site_of}
use Rattle.gm_versions.specs.Contents.{site_at, possible_changes_at}
use Rattle.gm_label.specs.Catalogues.{Catalogue}
use Rattle.gm_versions.specs.declared.versions.Versions.{Versions}
use Rattle.gm_versions.specs.Histories.{history_of}
use Rattle.gm_versions.specs.ContentsRules.{update_at}
use Rattle.gm_versions.proofs.Answering.{numbers-answered, batches_of, gathered-next, near-history, numbers_within}
use Rattle.gm_versions.proofs.versions.Versions.gather_updates.Goals as goal

-- each of the updates that are gone through is one of those up to the version
at : (cat : Catalogue) (versions : Versions) (version chunk k : ℕ) (numbers : List ℕ) → numbers ≡ (history_of cat chunk versions.batches version).updates → k < length numbers
    → (1 ≤ get_or numbers k 0) × (get_or numbers k 0 ≤ version)
at cat versions version chunk k numbers is within =
    let Fits = λ (number : ℕ). (1 ≤ number) × (number ≤ version) in
    All-get_or Fits numbers k 0 within (subst (All Fits) (sym is) (numbers_within cat versions.batches chunk version))

pub get-requires : goal.get-requires
get-requires c =
    let numbers = c.updates_up_to-update-items.ensures ∙ numbers-answered c.args.cat.now c.args.self.now c.args.version c.args.chunk c.requires.catalogue c.requires.version c.requires.chunk in
    let fits = at c.args.cat.now c.args.self.now c.args.version c.args.chunk c.loop-update.update-index c.updates_up_to-update-items.result.now numbers c.loop-update-test.true in
    let small = fits.1 in
    let few = c.requires.version in
    record { some = fits.0; within = omega (arith, small, few) }

pub returns-clause-added : goal.returns-clause-added
returns-clause-added c =
    let cat = c.args.cat.now in
    let updates = c.args.self.now.batches in
    let keeps = may_concern cat.dimensions (site_at cat c.args.chunk) in
    let items = c.updates_up_to-update-items.result.now in
    let numbers = c.updates_up_to-update-items.ensures ∙ numbers-answered cat c.args.self.now c.args.version c.args.chunk c.requires.catalogue c.requires.version c.requires.chunk in
    let none = ap (λ (ns : List ℕ). c.loop-update.into.items ++ filter keeps (batches_of updates ns)) (drop_all c.loop-update.update-index items c.loop-update-test.false) in
    sym (append-nil c.loop-update.into.items) ∙ sym none ∙ c.loop-update.invariant.added
    ∙ ap (λ (ns : List ℕ). c.args.into.now.items ++ filter keeps (batches_of updates ns)) numbers
    ∙ ap (λ (cs : List Change). c.args.into.now.items ++ filter keeps cs) (near-history cat updates c.args.chunk c.args.version)

pub loop-update-preserved : goal.loop-update-preserved
loop-update-preserved c =
    let cat = c.args.cat.now in
    let into = c.loop-update.into.items in
    let inv = c.loop-update.invariant in
    let numbers = c.updates_up_to-update-items.result.now in
    let number = get_or numbers c.loop-update.update-index 0 in
    let batch = update_at c.args.self.now.batches (number - 1) in
    let put = λ (d : Dimensions) (block : ℕ) (last : Bool) (changes : List Change). into ++ possible_changes d (site_of block last) changes in
    let is : c.gather.new.into.items ≡ into ++ possible_changes_at cat c.args.chunk batch =
    c.in_ok-gather.ensures.ok
    ∙ ap (λ (d : Dimensions). put d c.chunk-block.result.block c.is_last-last.result c.get.result.now) c.shape.ensures
    ∙ ap (λ (b : ℕ). put cat.dimensions b c.is_last-last.result c.get.result.now) (ap (λ (k : Chunk). k.block) c.chunk-block.ensures.value)
    ∙ ap (λ (l : Bool). put cat.dimensions (site_at cat c.args.chunk).block l c.get.result.now) c.is_last-last.ensures
    ∙ ap (put cat.dimensions (site_at cat c.args.chunk).block (site_at cat c.args.chunk).is_last) c.get.ensures in
    let here = possible_changes_at cat c.args.chunk batch in
    let before = c.loop-update.into.ok.0 in
    let after = c.gather.new.into.ok.0 in
    let grown = length-append into here in
    let most = ap length is in
    let low = inv.long in
    record {
      added = gathered-next (may_concern cat.dimensions (site_at cat c.args.chunk)) c.args.self.now.batches numbers c.loop-update.update-index number c.args.into.now.items into c.gather.new.into.items
          c.loop-update-test.true refl is inv.added;
      front = ap (take (vec_len c.args.into.now)) is ∙ take-append-le (vec_len c.args.into.now) into here (omega (arith, low, before)) ∙ inv.front;
      long = omega (arith, low, before, after, grown, most);
    }
