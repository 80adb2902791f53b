-- Keys of copies.
use Rattle.std.specs.Prelude.{Bool, false, ◌==◌, ◌&&◌}
use Rattle.gm_base.specs.declared.copies.Key.{Key}
use Rattle.gm_base.specs.declared.copies.Tag.{Tag}
use Rattle.gm_base.specs.declared.copies.Tag.TheVariants.{Update, Own}

abbrev pub is_same_tag : Tag → Tag → Bool
is_same_tag (Update a) (Update b) = a == b
is_same_tag (Update a) (Own b) = false
is_same_tag (Own a) (Update b) = false
is_same_tag (Own a) (Own b) = a == b

abbrev pub is_same_key : Key → Key → Bool
is_same_key a b = (a.chunk == b.chunk) && is_same_tag a.tag b.tag
