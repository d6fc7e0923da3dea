-- In which words a relation is told.
use Rattle.std.specs.Prelude.{ℕ, List, codes}
use Rattle.relation.specs.declared.related.Relation.{Relation}
use Rattle.relation.specs.declared.related.Relation.TheVariants.{Same, Bettered, Reordered}

abbrev pub relation_text : Relation → List ℕ
relation_text Same = codes "the same calls"
relation_text Bettered = codes "bettered"
relation_text Reordered = codes "reordered"
