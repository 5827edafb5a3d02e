pub mod WholeSessions
