-- Lessons: what passes are taught of keys, and that it stands.
pub mod LessonReach
pub mod Teaching
pub mod LessonLaws
pub mod HeardKeeps
pub mod WriteLessons
pub mod StaleSights
pub mod WrittenLessons
pub mod UnlinkLessons
pub mod HeaderLessons
pub mod LessonSeats
pub mod LessonRanges
pub mod TaughtStates
pub mod TaughtReads
pub mod GainedLessons
pub mod TaughtSteps
pub mod GapReach
pub mod LinkLessons
