-- What others did taught nothing exactly where nothing that is seen differs.
use Rattle.hurd_views.proofs.ViewLaws.{rows_are_views}
use Rattle.hurd_lessons.specs.Told.{UntaughtWhereUnmoved}
use Rattle.hurd_lessons.proofs.LessonLaws.{silent_where_same}

pub untaught_where_unmoved : UntaughtWhereUnmoved
untaught_where_unmoved tasks who w x text sound_w sound_x (a, b, in_w, in_x, lessons) =
    let silent = silent_where_same who a b text lessons in
    let same = rows_are_views tasks w x a b sound_w sound_x in_w in_x in (
      λ none. same.0 (silent.0 none),
      λ unmoved. silent.1 (same.1 unmoved),
    )
