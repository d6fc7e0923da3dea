-- That something cannot be read: the one value of its type.
use Rattle.lines.specs.declared.unreadable.Unreadable.{Unreadable}

abbrev pub unreadable : Unreadable
unreadable = record {}
