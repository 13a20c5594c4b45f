-- How the settings of a rule table are read.
use Rattle.std.specs.Prelude.{◌≡◌, ℕ, List, [], ◌++◌, Bool, true, ◌&&◌, ◌||◌, Option, is_some, option_map, codes}
use Rattle.std.specs.Option.{option_or}
use Rattle.std.specs.Borrow.{Bor}
use Rattle.ca_rule.specs.declared.table.settings.{SettingValues.SettingValues, TableSettings.TableSettings}
use Rattle.ca_rule.specs.{TableLines.NumberedLine, TableLines.setting, TableLines.value_of, TableText.Settings, TableText.SettingsMean, TableText.are_settings}

-- the bytes, where there are some
abbrev pub bytes_of : Option (Bor (List ℕ)) → Option (List ℕ)
bytes_of value = option_map (λ (b : Bor (List ℕ)). b.now) value

-- these are the values that the lines give
pub record AreValuesOf (lines : List NumberedLine) (values : SettingValues) : Type 0 where
  pub states_are : value_of (codes "n_states") lines ≡ bytes_of values.states
  pub neighbourhood_is : value_of (codes "neighborhood") lines ≡ bytes_of values.neighbourhood
  pub symmetry_is : value_of (codes "symmetries") lines ≡ bytes_of values.symmetry

-- these are the values that one line gives
pub record AreGivenBy (line : NumberedLine) (values : SettingValues) : Type 0 where
  pub states_are : setting (codes "n_states") line ≡ bytes_of values.states
  pub neighbourhood_is : setting (codes "neighborhood") line ≡ bytes_of values.neighbourhood
  pub symmetry_is : setting (codes "symmetries") line ≡ bytes_of values.symmetry

-- what the settings mean
abbrev pub meaning_of : TableSettings → Settings
meaning_of settings = record { states = settings.states; neighbourhood = settings.neighbourhood; symmetry = settings.symmetry }

-- these lines follow settings of which none is set again, and which give these values
pub record IsBehindSettings (all : List NumberedLine) (values : SettingValues) (lines : List NumberedLine) : Type 0 where
  pub good : List NumberedLine
  pub once : are_settings [] good ≡ true
  pub values_are : AreValuesOf good values
  pub whole : all ≡ good ++ lines

-- a setting has a value
abbrev pub has_some : SettingValues → Bool
has_some v = (is_some v.states || is_some v.neighbourhood) || is_some v.symmetry

-- a setting has a value here and there
abbrev pub have_one : SettingValues → SettingValues → Bool
have_one v w = ((is_some v.states && is_some w.states) || (is_some v.neighbourhood && is_some w.neighbourhood)) || (is_some v.symmetry && is_some w.symmetry)

-- these values, and for a setting that has none the other's
abbrev pub joined_settings : SettingValues → SettingValues → SettingValues
joined_settings v w = record {
  states = option_or v.states w.states;
  neighbourhood = option_or v.neighbourhood w.neighbourhood;
  symmetry = option_or v.symmetry w.symmetry;
}

-- these lines follow settings that mean this
pub record IsBehindMeant (all : List NumberedLine) (settings : Settings) (lines : List NumberedLine) : Type 0 where
  pub good : List NumberedLine
  pub mean : SettingsMean good settings
  pub whole : all ≡ good ++ lines
