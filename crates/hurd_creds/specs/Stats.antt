-- What io_stat tells of a node.
use Rattle.hurd_creds.specs.declared.attrs.Attrs.{Attrs}
use Rattle.hurd_creds.specs.declared.attrs.Stat.{Stat}

-- attributes, as they are told
abbrev pub stat_of : Attrs → Stat
stat_of a = record {
  kind = a.kind;
  owner = a.owner;
  group = a.group;
  mode = a.mode;
  links = a.links;
  size = a.size;
  passive = a.passive;
  active = a.active;
}
