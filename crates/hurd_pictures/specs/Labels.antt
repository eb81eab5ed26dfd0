-- What is in labels: bytes, words, numbers and names.
use Rattle.std.specs.Prelude.{ℕ, ◌==◌, ◌++◌, List, [], ◌∷◌, Option, Some, None, if◌then◌else◌, codes, decimal, length, nat_le, slice_get, take}
use Rattle.hurd_creds.specs.declared.name.Name.{Name}
use Rattle.hurd_words.specs.Escapes.{escaped_byte}
use Rattle.hurd_pictures.specs.declared.names.Owner.{Owner}
use Rattle.hurd_pictures.specs.declared.names.Titles.{Titles}

-- a byte as it is in a label: an entity where it is markup, two backslashes for each that is shown, and an escape where it can't be printed
abbrev pub label_byte : ℕ → List ℕ
label_byte b =
    if b == 38 then codes "&amp;"
    else if b == 60 then codes "&lt;"
    else if b == 62 then codes "&gt;"
    else if b == 34 then codes "&quot;"
    else if b == 93 then codes "&#93;"
    else if b == 92 then codes "\\\\\\\\"
    else if b == 32 then codes " "
    else escaped_byte b

-- bytes one after another, each as it is in a label
abbrev pub label : List ℕ → List ℕ
label [] = []
label (b ∷ bs) = label_byte b ++ label bs

-- the same, or that there are none: Graphviz refuses markup with nothing in it
abbrev pub shown : List ℕ → List ℕ
shown [] = codes "(none)"
shown (b ∷ bs) = label (b ∷ bs)

-- the first 24 of some bytes, and dots where there are more
unfoldable pub short_label : List ℕ → List ℕ
short_label bs = if nat_le (length bs) 24 then shown bs else label (take 24 bs) ++ codes " .."

-- words, each after a space
abbrev pub more_words : List (List ℕ) → List ℕ
more_words [] = []
more_words (word ∷ words) = (32 ∷ short_label word) ++ more_words words

-- words with a space between them, or that there are none
abbrev pub words_text : List (List ℕ) → List ℕ
words_text [] = codes "(none)"
words_text (word ∷ words) = short_label word ++ more_words words

-- the two numbers of a name, as `1_4`
abbrev pub numbers_text : Name → List ℕ
numbers_text n = decimal n.task.0 ++ (95 ∷ decimal n.count)

-- a node in the picture's text, as `n1_4`
abbrev pub node_name : Name → List ℕ
node_name n = 110 ∷ numbers_text n

-- an arrow between two nodes
abbrev pub arrow_text : Name → Name → List ℕ
arrow_text a b = codes "  " ++ (node_name a ++ (codes " -> " ++ node_name b))

-- what a uid is called: by the first name that is given for it, or its number
abbrev pub called_by : List Owner → ℕ → List ℕ
called_by [] uid = decimal uid
called_by (o ∷ os) uid = if o.uid == uid then shown o.name else called_by os uid

-- what an owner is called
abbrev pub owner_text : Titles → ℕ → List ℕ
owner_text t uid = called_by t.owners.items uid

-- whoever has a uid, or nobody
abbrev pub runner_text : Titles → Option ℕ → List ℕ
runner_text t None = codes "nobody"
runner_text t (Some uid) = owner_text t uid

-- a task by its name, or its number
abbrev pub task_by : Option (List ℕ) → ℕ → List ℕ
task_by (Some name) task = shown name
task_by None task = decimal task

-- what a task is called
abbrev pub task_text : Titles → ℕ → List ℕ
task_text t task = task_by (slice_get t.tasks.items task) task
