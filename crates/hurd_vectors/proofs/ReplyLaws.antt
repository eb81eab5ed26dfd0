-- Replies are printable ASCII.
use Rattle.std.proofs.Common.{◌≡◌, refl, ℕ, ◌/◌, ◌%◌, ◌==◌, true, List, [], ◌∷◌, ◌++◌, Option, Some, None, arith, codes, decimal}
use Rattle.hurd_creds.specs.Errors.{name_of}
use Rattle.hurd_creds.specs.declared.attrs.Kind.{Kind}
use Rattle.hurd_creds.specs.declared.attrs.Kind.TheVariants.{File}
use Rattle.hurd_creds.specs.declared.attrs.Stat.{Stat}
use Rattle.hurd_creds.specs.declared.errno.Errno.{Errno}
use Rattle.hurd_creds.specs.declared.errno.Errno.TheVariants.{EPERM}
use Rattle.hurd_creds.specs.declared.mode.Mode.{Mode}
use Rattle.hurd_words.specs.Printing.{octal_digit, six_octal_digits}
use Rattle.hurd_machine.specs.Calls.{Reply}
use Rattle.hurd_machine.specs.declared.call.Lookup.{Lookup}
use Rattle.hurd_machine.specs.declared.call.Lookup.TheVariants as lookup
use Rattle.hurd_machine.specs.declared.call.Reply.TheVariants as reply
use Rattle.hurd_machine.specs.declared.call.RetryKind.{RetryKind}
use Rattle.hurd_machine.specs.declared.call.RetryKind.TheVariants.{Normal}
use Rattle.hurd_lists.specs.Replies.{flags_text, high_digit, high_digits, kind_name, retry_name}
use Rattle.hurd_vectors.specs.Json.{names, quoted, texts, truth}
use Rattle.hurd_vectors.specs.Lines.{is_printable}
use Rattle.hurd_vectors.specs.Replies.{error_text, lookup_text, mode_text, owner_text, port_text, reply_fields, reply_text, rest_text, stat_text}
use Rattle.hurd_vectors.proofs.LineLaws.{Printable, both, choose, digit_printable, names_printable, quoted_printable}
use Rattle.hurd_vectors.proofs.NumberLaws.{byte_before, decimal_printable, texts_printable, truth_printable}

error_name_printable : (e : Errno) → Printable (name_of e)
error_name_printable EPERM = refl
error_name_printable _ = refl

kind_name_printable : (kind : Kind) → Printable (kind_name kind)
kind_name_printable File = refl
kind_name_printable _ = refl

retry_name_printable : (kind : RetryKind) → Printable (retry_name kind)
retry_name_printable Normal = refl
retry_name_printable _ = refl

-- two texts, each after another
twice : (one text two more : List ℕ) → Printable one → Printable text → Printable two → Printable more → Printable (one ++ (text ++ (two ++ more)))
twice one text two more p q r s = both one (text ++ (two ++ more)) p (both text (two ++ more) q (both two more r s))

port_printable : (port : Option ℕ) → Printable (port_text port)
port_printable None = refl
port_printable (Some port) = both (codes ", \"port\": ") (decimal port) refl (decimal_printable port)

lookup_printable : (found : Lookup) → Printable (lookup_text found)
lookup_printable (lookup.Done port) = both (codes "\"Done\", \"port\": ") (decimal port) refl (decimal_printable port)
lookup_printable (lookup.Retry kind name port) =
    twice (codes "\"Retry\", \"retry\": \"") (retry_name kind) (codes "\", \"name\": ") (quoted name ++ port_text port) refl (retry_name_printable kind) refl
    (both (quoted name) (port_text port) (quoted_printable name) (port_printable port))
lookup_printable (lookup.Start words) = both (codes "\"Start\", \"words\": ") (texts 0 words) refl (texts_printable 0 words)

-- attributes

owner_printable : (s : Stat) → Printable (owner_text s)
unfolding owner_text
owner_printable s = twice (codes ", \"owner\": ") (decimal s.owner) (codes ", \"group\": ") (decimal s.group) refl (decimal_printable s.owner) refl (decimal_printable s.group)

octal_printable : (n : ℕ) → is_printable (octal_digit n) ≡ true
octal_printable n = digit_printable (n % 8) (omega arith)

octal_before : (n : ℕ) (rest : List ℕ) → Printable rest → Printable (octal_digit n ∷ rest)
octal_before n rest all = byte_before (octal_digit n) rest (octal_printable n) all

six_printable : (n : ℕ) → Printable (six_octal_digits n)
six_printable n =
    let two = octal_digit (n / 8) ∷ octal_digit n ∷ [] in
    let four = octal_digit (n / 512) ∷ octal_digit (n / 64) ∷ two in
    octal_before (n / 32768) (octal_digit (n / 4096) ∷ four) (octal_before (n / 4096) four (octal_before (n / 512) (octal_digit (n / 64) ∷ two)
    (octal_before (n / 64) two (octal_before (n / 8) (octal_digit n ∷ []) (octal_before n [] refl)))))

high_printable : (n : ℕ) → Printable (high_digit n)
high_printable n = choose (n == 0) [] (octal_digit n ∷ []) refl (octal_before n [] refl)

all_high_printable : (n : ℕ) → Printable (high_digits n)
all_high_printable n =
    let four = high_digit (n / 134217728) ++ (high_digit (n / 16777216) ++ (high_digit (n / 2097152) ++ high_digit (n / 262144))) in
    both (high_digit (n / 1073741824)) four (high_printable (n / 1073741824)) (twice (high_digit (n / 134217728)) (high_digit (n / 16777216)) (high_digit (n / 2097152)) (high_digit (n / 262144))
    (high_printable (n / 134217728)) (high_printable (n / 16777216)) (high_printable (n / 2097152)) (high_printable (n / 262144)))

mode_printable : (mode : Mode) → Printable (mode_text mode)
unfolding mode_text
mode_printable mode = twice (codes ", \"mode\": \"") (high_digits mode.0) (six_octal_digits mode.0) (34 ∷ []) refl (all_high_printable mode.0) (six_printable mode.0) refl

rest_printable : (s : Stat) → Printable (rest_text s)
unfolding rest_text
rest_printable s =
    let holds = codes ", \"passive\": " ++ (truth s.passive ++ (codes ", \"active\": " ++ truth s.active)) in
    twice (codes ", \"links\": ") (decimal s.links) (codes ", \"size\": ") (decimal s.size ++ holds) refl (decimal_printable s.links) refl
    (both (decimal s.size) holds (decimal_printable s.size) (twice (codes ", \"passive\": ") (truth s.passive) (codes ", \"active\": ") (truth s.active) refl (truth_printable s.passive) refl (truth_printable s.active)))

stat_printable : (s : Stat) → Printable (stat_text s)
stat_printable s =
    let rest = owner_text s ++ (mode_text s.mode ++ rest_text s) in
    both (codes "\"Stat\", \"node\": \"") (kind_name s.kind ++ (34 ∷ rest)) refl (both (kind_name s.kind) (34 ∷ rest) (kind_name_printable s.kind)
    (both (owner_text s) (mode_text s.mode ++ rest_text s) (owner_printable s) (both (mode_text s.mode) (rest_text s) (mode_printable s.mode) (rest_printable s))))

error_printable : (kind : List ℕ) (e : Errno) → Printable kind → Printable (error_text kind (name_of e))
error_printable kind e first = twice kind (codes ", \"error\": \"") (name_of e) (34 ∷ []) first refl (error_name_printable e) refl

fields_printable : (r : Reply) → Printable (reply_fields r)
fields_printable reply.Done = refl
fields_printable (reply.Found found) = both (codes "\"Found\", \"found\": ") (lookup_text found) refl (lookup_printable found)
fields_printable (reply.Port port) = both (codes "\"Port\", \"port\": ") (decimal port) refl (decimal_printable port)
fields_printable (reply.Data bytes) = both (codes "\"Data\", \"bytes\": ") (quoted bytes) refl (quoted_printable bytes)
fields_printable (reply.Count count) = both (codes "\"Count\", \"count\": ") (decimal count) refl (decimal_printable count)
fields_printable (reply.Names items) = both (codes "\"Names\", \"names\": ") (texts 0 items) refl (texts_printable 0 items)
fields_printable (reply.Words words) = both (codes "\"Words\", \"words\": ") (texts 0 words) refl (texts_printable 0 words)
fields_printable (reply.Stat stat) = stat_printable stat
fields_printable (reply.Modes flags) = both (codes "\"Modes\", \"flags\": ") (names (flags_text flags)) refl (names_printable (flags_text flags))
fields_printable (reply.Same same) = both (codes "\"Same\", \"same\": ") (truth same) refl (truth_printable same)
fields_printable (reply.Refused e) = error_printable (codes "\"Refused\"") e refl
fields_printable (reply.Back e s) = error_printable (codes "\"Back\"") e refl

pub reply_printable : (r : Reply) → Printable (reply_text r)
reply_printable r = both (codes "{\"kind\": ") (reply_fields r ++ codes "}") refl (both (reply_fields r) (codes "}") (fields_printable r) refl)
