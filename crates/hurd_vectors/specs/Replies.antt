-- Replies as objects.
use Rattle.std.specs.Prelude.{ℕ, List, [], ◌∷◌, ◌++◌, Option, Some, None, codes, decimal}
use Rattle.hurd_creds.specs.Errors.{name_of}
use Rattle.hurd_creds.specs.declared.attrs.Stat.{Stat}
use Rattle.hurd_creds.specs.declared.mode.Mode.{Mode}
use Rattle.hurd_words.specs.Printing.{six_octal_digits}
use Rattle.hurd_machine.specs.Calls.{Reply}
use Rattle.hurd_machine.specs.declared.call.Lookup.{Lookup}
use Rattle.hurd_machine.specs.declared.call.Lookup.TheVariants as lookup
use Rattle.hurd_machine.specs.declared.call.Reply.TheVariants as reply
use Rattle.hurd_lists.specs.Replies.{flags_text, high_digits, kind_name, retry_name}
use Rattle.hurd_vectors.specs.Json.{names, quoted, texts, truth}

-- a port as a field after others, where there is one
abbrev pub port_text : Option ℕ → List ℕ
port_text None = []
port_text (Some port) = codes ", \"port\": " ++ decimal port

-- what a lookup found, after its kind
abbrev pub lookup_text : Lookup → List ℕ
lookup_text (lookup.Done port) = codes "\"Done\", \"port\": " ++ decimal port
lookup_text (lookup.Retry kind name port) = codes "\"Retry\", \"retry\": \"" ++ (retry_name kind ++ (codes "\", \"name\": " ++ (quoted name ++ port_text port)))
lookup_text (lookup.Start words) = codes "\"Start\", \"words\": " ++ texts 0 words

-- whose a node is
unfoldable pub owner_text : Stat → List ℕ
owner_text s = codes ", \"owner\": " ++ (decimal s.owner ++ (codes ", \"group\": " ++ decimal s.group))

-- its mode in octal digits
unfoldable pub mode_text : Mode → List ℕ
mode_text m = codes ", \"mode\": \"" ++ (high_digits m.0 ++ (six_octal_digits m.0 ++ 34 ∷ []))

-- how many entries name it, its size, and whether it has translators
unfoldable pub rest_text : Stat → List ℕ
rest_text s =
    codes ", \"links\": " ++ (decimal s.links ++ (codes ", \"size\": " ++ (decimal s.size ++ (codes ", \"passive\": " ++ (truth s.passive ++ (codes ", \"active\": " ++ truth s.active))))))

-- attributes, after the kind of the reply
abbrev pub stat_text : Stat → List ℕ
stat_text s = codes "\"Stat\", \"node\": \"" ++ (kind_name s.kind ++ (34 ∷ owner_text s ++ (mode_text s.mode ++ rest_text s)))

-- an error as a field, after the kind of the reply
abbrev pub error_text : List ℕ → List ℕ → List ℕ
error_text kind name = kind ++ (codes ", \"error\": \"" ++ (name ++ 34 ∷ []))

-- the fields of a reply from its kind on
abbrev pub reply_fields : Reply → List ℕ
reply_fields reply.Done = codes "\"Done\""
reply_fields (reply.Found found) = codes "\"Found\", \"found\": " ++ lookup_text found
reply_fields (reply.Port port) = codes "\"Port\", \"port\": " ++ decimal port
reply_fields (reply.Data bytes) = codes "\"Data\", \"bytes\": " ++ quoted bytes
reply_fields (reply.Count count) = codes "\"Count\", \"count\": " ++ decimal count
reply_fields (reply.Names items) = codes "\"Names\", \"names\": " ++ texts 0 items
reply_fields (reply.Words words) = codes "\"Words\", \"words\": " ++ texts 0 words
reply_fields (reply.Stat stat) = stat_text stat
reply_fields (reply.Modes flags) = codes "\"Modes\", \"flags\": " ++ names (flags_text flags)
reply_fields (reply.Same same) = codes "\"Same\", \"same\": " ++ truth same
reply_fields (reply.Refused e) = error_text (codes "\"Refused\"") (name_of e)
reply_fields (reply.Back e s) = error_text (codes "\"Back\"") (name_of e)

-- a reply as an object
abbrev pub reply_text : Reply → List ℕ
reply_text r = codes "{\"kind\": " ++ (reply_fields r ++ codes "}")
