-- What the words of each command ask for.
use Rattle.std.specs.Prelude.{◌≡◌, ◌≢◌, ◌⊎◌, ℕ, List, [], Option, option_map, None, Some, map, codes, unwrap_or}
use Rattle.clap.specs.Matches.{found_of, first_value, subcommand_name_of}
use Rattle.clap.specs.Walk.{rows_of}
use Rattle.clap.specs.Simple.{subcommand_rows_of}
use Rattle.clap.specs.declared.parser.matches.ArgMatches.{ArgMatches}
use Rattle.ca_pattern.specs.declared.format.Format.{Format}
use Rattle.ca_pattern.specs.declared.format.Format.TheVariants.{Rle, Mc}
use Rattle.ca_draw.specs.declared.drawing.ImageFormat.{ImageFormat}
use Rattle.ca_draw.specs.declared.drawing.ImageFormat.TheVariants as image
use Rattle.ca_report.specs.declared.{form.Form.Form, form.DrawRequest.DrawRequest}
use Rattle.ca_report.specs.declared.form.Form.TheVariants.{Text, Picture}
use Rattle.ca_report.specs.declared.form.TextForm.TheVariants.{Summary, File}
use Rattle.ca_cli.specs.Words.{IsTextAfter, IsNumberAfter, scale_of}
use Rattle.ca_cli.specs.Values.{IsFlag, AreTextsOf, IsByteAfter, IsTarget, IsCorner, IsSize}
use Rattle.ca_cli.specs.RawWords.{ArePathsOf}
use Rattle.ca_cli.specs.declared.{extras.Extras.Extras, request.Request.Request, commands.pattern.PatternExtras.PatternExtras}
use Rattle.ca_cli.specs.declared.{commands.verify.Folders.Folders, commands.identify.Search.Search, commands.census.CensusSearch.CensusSearch, commands.import.ImportWords.ImportWords}
use Rattle.ca_cli.specs.declared.request.Request.TheVariants.{Write, Verify, Identify, Census, Import, RuleFile}

-- what is asked for besides claims or patterns
pub record AreExtras (words : ArgMatches) (extras : Extras) : Type 0 where
  pub explained : IsFlag words (codes "explain") extras.explained
  pub progress : IsFlag words (codes "progress") extras.progress
  pub memo : IsNumberAfter words (codes "memo") extras.memo
  pub work : IsNumberAfter words (codes "work") extras.work
  pub memory : IsNumberAfter words (codes "max-memory") extras.memory

-- what is asked for besides patterns
pub record ArePatternExtras (words : ArgMatches) (extras : PatternExtras) : Type 0 where
  pub rule : IsTextAfter words (codes "rule") extras.rule
  pub folder : IsTextAfter words (codes "rules") extras.folder
  pub after : IsNumberAfter words (codes "after") extras.after
  pub besides : AreExtras words extras.extras

-- the folders of a run of `verify`
pub record AreFolders (words : ArgMatches) (folders : Folders) : Type 0 where
  pub rules : IsTextAfter words (codes "rules") folders.rules
  pub root : IsTextAfter words (codes "root") folders.root

-- what a run of `identify` looks for
pub record IsSearch (words : ArgMatches) (search : Search) : Type 0 where
  pub limit : IsNumberAfter words (codes "limit") search.limit
  pub apgcodes : IsFlag words (codes "apgcode") search.codes

-- what a run of `census` looks for, and whether each object is told
pub record IsCensusSearch (words : ArgMatches) (search : CensusSearch) : Type 0 where
  pub limit : IsNumberAfter words (codes "limit") search.limit
  pub listed : IsFlag words (codes "list") search.listed

-- the format that `import` writes: RLE, but for `--to mc`
abbrev pub IsImportTarget : ArgMatches → Format → Type 0
IsImportTarget words Rle = first_value (found_of words) (codes "to") ≢ Some (codes "mc")
IsImportTarget words Mc = first_value (found_of words) (codes "to") ≡ Some (codes "mc")

-- what is imported
pub record AreImportWords (words : ArgMatches) (import : ImportWords) : Type 0 where
  pub path : IsTextAfter words (codes "FILE") (Some import.path)
  pub target : IsImportTarget words import.target
  pub rule : IsTextAfter words (codes "rule") import.rule

-- what a picture is written as: a text, but for `--to pgm`
abbrev pub IsImageFormat : ArgMatches → ImageFormat → Type 0
IsImageFormat words image.Text = first_value (found_of words) (codes "to") ≢ Some (codes "pgm")
IsImageFormat words image.Pgm = first_value (found_of words) (codes "to") ≡ Some (codes "pgm")

-- a zoom is one of an image at scale 0
abbrev pub IsZoomable : ImageFormat → (scale zoom : Option ℕ) → Type 0
IsZoomable format scale None = Unit {0}
IsZoomable format scale (Some zoom) = (format ≡ image.Pgm) × (unwrap_or scale 0 ≡ 0)

-- what is asked for of a picture
pub record IsDrawn (words : ArgMatches) (drawn : DrawRequest) : Type 0 where
  pub format : IsImageFormat words drawn.format
  pub corner : IsCorner words drawn.view.corner
  pub size : IsSize words drawn.view.size
  pub zoom : (zoom : Option ℕ) × (scale : Option ℕ) × IsByteAfter words (codes "zoom") zoom × IsByteAfter words (codes "scale") scale
      × IsZoomable drawn.format scale zoom × (drawn.view.zoom ≡ unwrap_or zoom 1) × (drawn.view.scale ≡ scale_of zoom scale)

-- this form of the file at the path of FILE
abbrev pub IsWritten : ArgMatches → Form → Request → Type 0
IsWritten words form (Write path written extras) = IsTextAfter words (codes "FILE") (Some path) × (written ≡ form) × ArePatternExtras words extras
IsWritten words form _ = ⊥

-- what the words of `show` ask for
abbrev pub IsShow : ArgMatches → Request → Type 0
IsShow words request = IsWritten words (Text Summary) request

-- of `convert`
abbrev pub IsConvert : ArgMatches → Request → Type 0
IsConvert words request = (target : Format) × IsTarget words (Some target) × IsWritten words (Text (File target)) request

-- of `draw`
abbrev pub IsDraw : ArgMatches → Request → Type 0
IsDraw words request = (drawn : DrawRequest) × IsDrawn words drawn × IsWritten words (Picture drawn) request

-- of `verify`
abbrev pub IsVerify : ArgMatches → Request → Type 0
IsVerify words (Verify paths folders extras) = AreTextsOf words (codes "CLAIMS") paths.items × AreFolders words folders × AreExtras words extras
IsVerify words _ = ⊥

-- of `identify`, where these of its paths aren't UTF-8
abbrev pub IsIdentify : ArgMatches → (raw : List (List ℕ)) → Request → Type 0
IsIdentify words raw (Identify paths search extras) = ArePathsOf words raw (map (λ path. path.items) paths.items) × IsSearch words search × ArePatternExtras words extras
IsIdentify words raw _ = ⊥

-- of `census`, where these of its paths aren't UTF-8
abbrev pub IsCensus : ArgMatches → (raw : List (List ℕ)) → Request → Type 0
IsCensus words raw (Census paths search into extras) = ArePathsOf words raw (map (λ path. path.items) paths.items) × IsCensusSearch words search
    × IsTextAfter words (codes "into") into × ArePatternExtras words extras
IsCensus words raw _ = ⊥

-- of `import`
abbrev pub IsImport : ArgMatches → Request → Type 0
IsImport words (Import import) = AreImportWords words import
IsImport words _ = ⊥

-- of `rule`
abbrev pub IsRuleFile : ArgMatches → Request → Type 0
IsRuleFile words (RuleFile text) = IsTextAfter words (codes "TEXT") (Some text)
IsRuleFile words _ = ⊥

-- what the words of a command ask for, by its name; only those of `identify` and `census` may hold paths that aren't UTF-8
abbrev pub IsAskedBy : (command : List ℕ) → ArgMatches → (raw : List (List ℕ)) → Request → Type 0
IsAskedBy command words raw request = ((command ≡ codes "identify") × IsIdentify words raw request)
    ⊎ (((command ≡ codes "census") × IsCensus words raw request)
    ⊎ ((raw ≡ []) × (((command ≡ codes "show") × IsShow words request)
    ⊎ (((command ≡ codes "convert") × IsConvert words request)
    ⊎ (((command ≡ codes "draw") × IsDraw words request)
    ⊎ (((command ≡ codes "verify") × IsVerify words request)
    ⊎ (((command ≡ codes "import") × IsImport words request)
    ⊎ ((command ≡ codes "rule") × IsRuleFile words request))))))))

-- what the words ask for by the command that clap found, and the words that it found for that
abbrev pub IsAskedFor : ArgMatches → (raw : List (List ℕ)) → Request → Type 0
IsAskedFor matches raw request = (command : List ℕ) × (words : ArgMatches) × (subcommand_name_of matches ≡ Some command)
    × (option_map (λ found. found.1) (subcommand_rows_of matches) ≡ Some (rows_of (found_of words))) × IsAskedBy command words raw request
