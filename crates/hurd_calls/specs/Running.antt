-- A list of calls that comes a call at a time.
use Rattle.std.specs.Prelude.{[], ◌∷◌}
use Rattle.hurd_dialogue.specs.Parts.{Way}
use Rattle.hurd_lists.specs.Lists.{Listed}
use Rattle.hurd_calls.specs.Making.{parts_of}

-- this call alone is told next, as the first
abbrev pub given : Listed → Way → Way
given c way = record way { left = parts_of (c ∷ []) way.world; told = 0 }
