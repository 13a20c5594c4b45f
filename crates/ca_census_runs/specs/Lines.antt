-- The lines on the census of a file (our own; docs/CLAIMS.md).
use Rattle.std.specs.Prelude.{◌≡◌, ℕ, List, [], ◌∷◌, ◌++◌, map, length, Bool, true, false, codes, decimal}
use Rattle.std.specs.List.{flat_map, sum_by}
use Rattle.ca_report.specs.Prelude.{generations_word}
use Rattle.ca_identify_lines.specs.Prelude.{objects_word, comment_head}
use Rattle.ca_census.specs.declared.{reach.Reach.Reach, census.Census.Census, entry.CensusObject.CensusObject}
use Rattle.ca_census_runs.specs.declared.task.CensusTask.{CensusTask}
use Rattle.ca_census_runs.specs.{Objects.label, Objects.size_words, Objects.object_line, Counts.AreCounts, Counts.count_line, Places.ArePlaced}

-- how many cells all objects have
abbrev pub all_cells : List CensusObject → ℕ
all_cells objects = sum_by (λ object. object.cells) objects

-- the objects in numbers, as `3 objects, 15 cells`
abbrev pub objects_words : List CensusObject → List ℕ
objects_words objects = decimal (length objects) ++ (objects_word (length objects) ++ (codes ", " ++ size_words (all_cells objects)))

-- the first line on a file whose plane settles
abbrev pub settled_line : (start : ℕ) → List ℕ → Census → List ℕ
settled_line start name census =
    comment_head start name ++ ((codes "settles after " ++ decimal census.generations) ++ (generations_word census.generations ++ (codes ": "
    ++ (objects_words census.objects.items ++ 10 ∷ []))))

-- the line on a file whose plane isn't found to settle
abbrev pub unsettled_line : Reach → List ℕ → List ℕ
unsettled_line reach name =
    comment_head reach.start name ++ ((codes "not found to settle within " ++ decimal reach.limit) ++ (generations_word reach.limit ++ 10 ∷ []))

-- the lines on objects: one for each, by its place, where they are listed; else one for each label, with how many have it
abbrev pub AreObjectLines : (listed : Bool) → List CensusObject → List ℕ → Type 0
AreObjectLines true objects lines = (placed : List CensusObject) × ArePlaced objects placed × (lines ≡ flat_map object_line placed)
AreObjectLines false objects lines = (counts : List (List ℕ × ℕ)) × AreCounts (map label objects) counts × (lines ≡ flat_map count_line counts)

-- all lines on a file whose plane settles
abbrev pub AreCensusLines : CensusTask → List ℕ → Census → List ℕ → Type 0
AreCensusLines task name census text =
    (lines : List ℕ) × AreObjectLines task.listed census.objects.items lines × (text ≡ settled_line task.reach.start name census ++ lines)
