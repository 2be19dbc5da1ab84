-- What a part of a sequence says of names.
use Rattle.ada_regions.specs.Occurrences.{Occurrences, SequenceNames}
use Rattle.ada_occurrences.specs.declared.telling.Part.{Part}
use Rattle.ada_occurrences.specs.declared.telling.Part.TheVariants as part

abbrev pub names_of : Part → SequenceNames → Occurrences
names_of part.Declarations names = names.declarations
names_of part.Labels names = names.labels
names_of part.Statements names = names.statements
